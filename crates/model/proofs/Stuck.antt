-- Refusal 14: trees that the table does not accept, and its place.
use Rattle.std.specs.Prelude.{if◌then◌else◌}
use Prim.Native.Nat.{ℕ, zero, suc, ◌+◌, ◌-◌, ◌≤◌, ◌<◌}
use mathlib.Core.Path.{◌≡◌, refl, ap, sym, ◌∙◌, subst}
use mathlib.Core.Bool.{Bool, true, false}
use mathlib.Core.List.{List, [], ◌∷◌, ◌++◌, append_assoc, append-nil}
use mathlib.Core.Logic.{◌↔◌}
use native.Mathlib.Omega.{arith}
use native.Mathlib.Decide.{dec_le}
use native.Mathlib.Nat.{not-suc-le-zero, lt_of_not-le}
use lib.ListN.{length, get_or, take, drop, length-append, length-drop, get_or-append}
use lib.Seq.{take_at, drop_at, drop-append-add, get_or-append-add, get_or_at}
use lib.Dec.{ltb}
use borrow.Author.Tests.{ltb-true, ltb-false, lt-ltb, not-false}
use Rattle.model.specs.Answers.{Outcome, result, refused}
use Rattle.model.specs.Table.{Table}
use Rattle.model.specs.Tree.{Forest, Tree, empty, node, only, serial_forest, serial, SymbolsInRange}
use Rattle.model.specs.Reach.{Reach, none, row, Reaches, Accepted, target_of, states_of, row_of, state_of, entry_of}
use Rattle.model.specs.Number.{reaches_none, stuck_then, accepted_then}
use Rattle.model.specs.Place.{Closes, BarsClose, ReachesSome, UnacceptedAt, stuck, unlisted}
use Rattle.model.proofs.Choice.{if_yes, if_no, if_result, else_result, refused_number, refused_place, not_both}
use Rattle.model.proofs.Good.{AllBelow, below_none, below_cons, Sound}
use Rattle.model.proofs.Longest.{forest_length, serial_length, row_fits}
use Rattle.model.proofs.Reaching.{reaches_same}
use Rattle.model.proofs.Serial.{serial_same}
use Rattle.model.proofs.Values.{Three, lt, eq, gt, three}
use Rattle.model.proofs.States.{reach_states, state_reaches, reaches_state, entry_of_first, accepted_exactly}

module _ (T : Table) (sound : Sound T) where
  -- ---- one node

  -- a tree whose bar does not refuse has a state
  pub reaches_some : (s : ℕ) (k : Forest) → reaches_none T s k ≡ false → target_of T (row_of T s k) < T.states
  unfolding reaches_none
  reaches_some s k e = ltb-true (target_of T (row_of T s k)) T.states (not-false (ltb (target_of T (row_of T s k)) T.states) e)

  -- and back
  pub some_reaches : {t : Tree} {q : ℕ} → Reaches T.rows t q → reaches_none T t.symbol t.children ≡ false
  unfolding reaches_none
  some_reaches {t} {q} r =
      let l : state_of T t < T.states = rw (state_reaches sound r) (reaches_fits r) in
      rw (lt-ltb (state_of T t) T.states l)
    where
      reaches_fits : {t : Tree} {q : ℕ} → Reaches T.rows t q → q < T.states
      reaches_fits (row i w ks none) = row_fits T sound w

  -- the tree with this symbol and these children reaches no state
  pub reaches_none_lem : (t : Tree) → (reaches_none T t.symbol t.children ≡ true) ↔ ((q : ℕ) → Reaches T.rows t q → ⊥)
  reaches_none_lem t = (there, back)
    where
      there : reaches_none T t.symbol t.children ≡ true → (q : ℕ) → Reaches T.rows t q → ⊥
      there e q r = not_both (reaches_none T t.symbol t.children) e (some_reaches r)

      back : ((q : ℕ) → Reaches T.rows t q → ⊥) → reaches_none T t.symbol t.children ≡ true
      back h = go (reaches_none T t.symbol t.children) refl
        where
          go : (b : Bool) → reaches_none T t.symbol t.children ≡ b → b ≡ true
          go true e = refl
          go false e = absurd (h (state_of T t) (reaches_state sound t (reaches_some t.symbol t.children e)))

  -- ---- trees side by side

  -- where they reach states, what follows decides
  pub stuck_taken : {f : Forest} {qs : List ℕ} → Reach T.rows f qs → (p : ℕ) (o : Outcome) → stuck_then T f p o ≡ o
  unfolding stuck_then
  stuck_taken none p o = refl
  stuck_taken (row {s} {children = k} {right = r} i w ks ts) p o =
      stuck_taken ks (suc p) _
      ∙ if_no (reaches_none T s k) (refused 14 (suc p + length (serial_forest k))) _ (some_reaches (row i w ks none))
      ∙ stuck_taken ts (suc (suc p + length (serial_forest k))) o

  states_below : (f : Forest) (p m : ℕ) (o : Outcome) → stuck_then T f p o ≡ result m → AllBelow T.states (states_of T f) × (o ≡ result m)
  unfolding stuck_then states_of
  states_below empty p m o e = (below_none T.states, e)
  states_below (node s k r) p m o e =
      let a = states_below k (suc p) m _ e in
      let b = if_result (reaches_none T s k) 14 (suc p + length (serial_forest k)) m _ a.1 in
      let d = states_below r (suc (suc p + length (serial_forest k))) m o b.1 in
      (below_cons T.states (target_of T (row_of T s k)) (states_of T r) (reaches_some s k b.0) d.0, d.1)

  -- a result: they reach states
  pub stuck_back : (f : Forest) (p m : ℕ) (o : Outcome) → stuck_then T f p o ≡ result m → Reach T.rows f (states_of T f) × (o ≡ result m)
  stuck_back f p m o e = let h = states_below f p m o e in (reach_states sound f h.0, h.1)

  -- ---- a tree

  -- an accepted tree is taken
  pub accepted_taken : {t : Tree} → Accepted T t → (o : Outcome) → accepted_then T t o ≡ o
  unfolding accepted_then
  accepted_taken {t} a o =
      stuck_taken a.reaches 0 _
      ∙ if_yes (ltb (entry_of T.accepting (state_of T t)) (length T.accepting)) o (refused 14 (length (serial t) - 1))
      (lt-ltb (entry_of T.accepting (state_of T t)) (length T.accepting) ((accepted_exactly sound t).0 a))

  -- a tree that is taken is accepted
  pub accepted_back : (t : Tree) (m : ℕ) (o : Outcome) → accepted_then T t o ≡ result m → Accepted T t × (o ≡ result m)
  unfolding accepted_then
  accepted_back t m o e =
      let entry = entry_of T.accepting (state_of T t) in
      let b = else_result (ltb entry (length T.accepting)) 14 (length (serial t) - 1) m o (stuck_back (only t) 0 m _ e).1 in
      ((accepted_exactly sound t).1 (ltb-true entry (length T.accepting) b.0), b.1)

  -- and the result is what follows
  pub accepted_result : (t : Tree) (k m : ℕ) → accepted_then T t (result k) ≡ result m → Accepted T t × (k ≡ m)
  accepted_result t k m e = let a = accepted_back t m (result k) e in let d = a.1 in (a.0, let z : k ≡ m = cc in z)

-- ---- bars, and the subtrees that they close

-- how many bars of the entries close nodes opened before them
unfoldable owed : List ℕ → ℕ
owed [] = 0
owed (zero ∷ es) = suc (owed es)
owed (suc s ∷ es) = owed es - 1

owed_forest : (f : Forest) (es : List ℕ) → SymbolsInRange f → owed (serial_forest f ++ es) ≡ owed es
unfolding owed serial_forest SymbolsInRange
owed_forest empty es h = refl
owed_forest (node zero k r) es h = absurd (omega (arith, h.0))
owed_forest (node (suc s) k r) es h =
    rw (append_assoc (serial_forest k) (0 ∷ serial_forest r) es)
    (omega (arith, owed_forest k (0 ∷ serial_forest r ++ es) h.2, owed_forest r es h.3))

-- from inside a forest on, no fewer than from its end on
owed_inside : (f : Forest) (es : List ℕ) (j : ℕ) → SymbolsInRange f → j ≤ length (serial_forest f) → owed es ≤ owed (drop j (serial_forest f ++ es))
unfolding owed serial_forest SymbolsInRange
owed_inside empty es zero h l = omega arith
owed_inside empty es (suc j) h l = absurd (omega arith)
owed_inside (node s k r) es zero h l = omega (arith, owed_forest (node s k r) es h)
owed_inside (node s k r) es (suc j) h l =
    rw (append_assoc (serial_forest k) (0 ∷ serial_forest r) es)
    (go (dec_le j (length (serial_forest k))) (λ m. owed_inside k (0 ∷ (serial_forest r ++ es)) j h.2 m) (λ i m. owed_inside r es i h.3 m))
  where
    go : Dec (j ≤ length (serial_forest k))
        → (j ≤ length (serial_forest k) → suc (owed (serial_forest r ++ es)) ≤ owed (drop j (serial_forest k ++ (0 ∷ (serial_forest r ++ es)))))
        → ((i : ℕ) → i ≤ length (serial_forest r) → owed es ≤ owed (drop i (serial_forest r ++ es)))
        → owed es ≤ owed (drop j (serial_forest k ++ (0 ∷ (serial_forest r ++ es))))
    go (yes m) here later = omega (arith, here m, owed_forest r es h.3)
    go (no m) here later =
        let d : length (serial_forest k) < j = lt_of_not-le m in
        let i = j - length (serial_forest k) - 1 in
        let e : j ≡ length (serial_forest k) + suc i = omega arith in
        rw (e, drop-append-add (serial_forest k) (0 ∷ (serial_forest r ++ es)) (suc i))
        (later i (omega (arith, l, length-append (serial_forest k) (0 ∷ serial_forest r))))

-- no tree ends where a tree ends that begins before it
no_end_lem : (t u : Tree) (j : ℕ) → SymbolsInRange (only t) → SymbolsInRange (only u) → drop (suc j) (serial t) ≡ serial u → ⊥
unfolding serial serial_forest owed SymbolsInRange
no_end_lem t u j p q e = omega (arith, here, owed_forest (only u) [] q, ap owed (append-nil (serial_forest (only u))), ap owed e)
  where
    short : j ≤ length (serial_forest t.children)
    short =
        let n = ap length e in
        omega (arith, n, length-drop (suc j) (serial t), serial_length t, serial_length u)

    here : 1 ≤ owed (drop j (serial_forest t.children ++ (0 ∷ [])))
    here = owed_inside t.children (0 ∷ []) j p.2 short

not_longer : (x y : List ℕ) (t u : Tree) → SymbolsInRange (only t) → SymbolsInRange (only u) → x ++ serial t ≡ y ++ serial u → length x < length y → ⊥
not_longer x y t u p q e l =
    let j = length y - length x - 1 in
    let d : length y ≡ length x + suc j = omega arith in
    no_end_lem t u j p q (sym (drop-append-add x (serial t) (suc j)) ∙ ap (drop (length x + suc j)) e ∙ drop_at y (serial u) (length x + suc j) d)

ends_same : (x y : List ℕ) (t u : Tree) → SymbolsInRange (only t) → SymbolsInRange (only u) → x ++ serial t ≡ y ++ serial u → t ≡ u
ends_same x y t u p q e = go (three (length x) (length y))
  where
    go : Three (length x < length y) (length x ≡ length y) (length y < length x) → t ≡ u
    go (lt l) = absurd (not_longer x y t u p q e l)
    go (eq d) = serial_same t u p q (sym (drop_at x (serial t) (length x) refl) ∙ ap (drop (length x)) e ∙ drop_at y (serial u) (length x) (sym d))
    go (gt l) = absurd (not_longer y x u t q p (sym e) l)

-- a bar closes one tree
pub closes_once : {entries : List ℕ} {i : ℕ} {t u : Tree} → Closes entries i t → Closes entries i u → t ≡ u
closes_once {entries} {i} {t} {u} c d = ends_same c.before d.before t u c.symbols d.symbols (sym (front c) ∙ front d)
  where
    front : {v : Tree} (c : Closes entries i v) → take (suc i) entries ≡ c.before ++ serial v
    front {v} c = ap (take (suc i)) c.split ∙ take_at (c.before ++ serial v) c.after (suc i) (length-append c.before (serial v) ∙ c.place)

-- a bar stands there
closes_bar : {entries : List ℕ} {i : ℕ} {t : Tree} → Closes entries i t → get_or entries i 0 ≡ 0
unfolding serial serial_forest
closes_bar {entries} {i} {t} c =
    let open_part = t.symbol ∷ serial_forest t.children in
    let e : entries ≡ (c.before ++ open_part) ++ (0 ∷ c.after) = c.split ∙ regroup c.before open_part c.after in
    rw e (get_or_at (c.before ++ open_part) 0 c.after 0 i (omega (arith, c.place, length-append c.before open_part, serial_length t)))
  where
    regroup : (a b x : List ℕ) → a ++ (b ++ (0 ∷ [])) ++ x ≡ (a ++ b) ++ (0 ∷ x)
    regroup a b x = simp append_assoc

closes_inside : {entries : List ℕ} {i : ℕ} {t : Tree} → Closes entries i t → i < length entries
closes_inside {entries} {i} {t} c =
    let e = ap length c.split in
    omega (arith, e, c.place, length-append (c.before ++ serial t) c.after, length-append c.before (serial t))

-- with entries to the left and to the right
closes_among : {entries whole : List ℕ} {i j : ℕ} {t : Tree} (l r : List ℕ) → whole ≡ l ++ entries ++ r → length l + i ≡ j → Closes entries i t → Closes whole j t
closes_among {t} l r e d c =
    record {
      before = l ++ c.before;
      after = c.after ++ r;
      symbols = c.symbols;
      split = e ∙ ap (λ (es : List ℕ). l ++ es ++ r) c.split ∙ regroup l c.before (serial t) c.after r;
      place = omega (arith, c.place, d, length-append l c.before);
    }
  where
    regroup : (a b x y z : List ℕ) → a ++ (b ++ x ++ y) ++ z ≡ a ++ b ++ x ++ (y ++ z)
    regroup a b x y z = simp append_assoc

-- a first tree's entries come first
node_first : (s : ℕ) (k r : Forest) → serial_forest (node s k r) ≡ serial (record { symbol = s; children = k }) ++ serial_forest r
unfolding serial serial_forest
node_first s k r = sym (append_assoc (s ∷ serial_forest k) (0 ∷ []) (serial_forest r))

-- a tree among the trees to its right
closes_first : (s : ℕ) (k r : Forest) → SymbolsInRange (node s k r) → Closes (serial_forest (node s k r)) (suc (length (serial_forest k))) (record { symbol = s; children = k })
unfolding serial serial_forest SymbolsInRange
closes_first s k r h =
    record {
      before = [];
      after = serial_forest r;
      symbols = (h.0, h.1, h.2, tt);
      split = node_first s k r;
      place = omega (arith, length-append (serial_forest k) (0 ∷ []));
    }

-- where each bar closes a tree with the property, each tree that is closed there has it
pub bars_each : {P : Tree → Type 0} {entries : List ℕ} {n i : ℕ} {t : Tree} → BarsClose P entries n → Closes entries i t → i < n → P t
bars_each {P} {i} b c l = let p = b i l (closes_bar c) in subst P (closes_once p.1 c) p.2

-- a tree among its children
closes_children : {i : ℕ} {u : Tree} (s : ℕ) (k r : Forest) → Closes (serial_forest k) i u → Closes (serial_forest (node s k r)) (suc i) u
unfolding serial_forest
closes_children s k r c = closes_among (s ∷ []) (0 ∷ serial_forest r) refl (omega arith) c

-- up to a place among a node's children
bars_children : (P : Tree → Type 0) (s : ℕ) (k r : Forest) → SymbolsInRange (node s k r) → (n : ℕ) → n ≤ length (serial_forest k)
    → BarsClose P (serial_forest k) n → BarsClose P (serial_forest (node s k r)) (suc n)
unfolding serial_forest SymbolsInRange
bars_children P s k r h n l b zero m e = absurd (omega (arith, h.0))
bars_children P s k r h n l b (suc i) m e =
    let p = b i (omega arith) (sym (get_or-append (serial_forest k) (0 ∷ serial_forest r) 0 i (omega arith)) ∙ e) in
    (p.0, closes_children s k r p.1, p.2)

-- the trees to its right
right_entry : (s : ℕ) (k r : Forest) (i : ℕ) → get_or (serial_forest (node s k r)) (2 + length (serial_forest k) + i) 0 ≡ get_or (serial_forest r) i 0
right_entry s k r i =
    rw (node_first s k r, ← (serial_length (record { symbol = s; children = k })))
    (get_or-append-add (serial (record { symbol = s; children = k })) (serial_forest r) i 0)

closes_right : {i j : ℕ} {u : Tree} (s : ℕ) (k r : Forest) → 2 + length (serial_forest k) + i ≡ j → Closes (serial_forest r) i u → Closes (serial_forest (node s k r)) j u
closes_right s k r e c =
    let t : Tree = record { symbol = s; children = k } in
    closes_among (serial t) [] (node_first s k r ∙ sym (append-nil (serial t ++ serial_forest r))) (omega (arith, e, serial_length t)) c

-- up to a place among them
bars_right : (P : Tree → Type 0) (s : ℕ) (k r : Forest) → SymbolsInRange (node s k r) → (n : ℕ)
    → BarsClose P (serial_forest k) (length (serial_forest k)) → P (record { symbol = s; children = k }) → BarsClose P (serial_forest r) n
    → BarsClose P (serial_forest (node s k r)) (2 + length (serial_forest k) + n)
bars_right P s k r h n b p d i m e = go (three i (suc (length (serial_forest k))))
  where
    later : (j : ℕ) → 2 + length (serial_forest k) + j ≡ i → (u : Tree) × Closes (serial_forest (node s k r)) i u × P u
    later j z =
        let q = d j (omega arith) (sym (right_entry s k r j) ∙ ap (λ (x : ℕ). get_or (serial_forest (node s k r)) x 0) z ∙ e) in
        (q.0, closes_right s k r z q.1, q.2)

    go : Three (i < suc (length (serial_forest k))) (i ≡ suc (length (serial_forest k))) (suc (length (serial_forest k)) < i)
        → (u : Tree) × Closes (serial_forest (node s k r)) i u × P u
    go (lt l) = bars_children P s k r h (length (serial_forest k)) (omega arith) b i l e
    go (eq z) = (record { symbol = s; children = k }, rw z (closes_first s k r h), p)
    go (gt l) = later (i - length (serial_forest k) - 2) (omega arith)

-- ---- the place of 14

-- what a forest at a place answers
data Walked (T : Table) (f : Forest) (place : ℕ) (o answer : Outcome) : Type 0 where
  clear : BarsClose (ReachesSome T) (serial_forest f) (length (serial_forest f)) → answer ≡ o → Walked T f place o answer
  halts : (i : ℕ) (u : Tree) → Closes (serial_forest f) i u → ((q : ℕ) → Reaches T.rows u q → ⊥) → BarsClose (ReachesSome T) (serial_forest f) i
      → answer ≡ refused 14 (place + i) → Walked T f place o answer

module _ (T : Table) (sound : Sound T) where
  walked_right : (s : ℕ) (k r : Forest) (place : ℕ) (o x : Outcome) → SymbolsInRange (node s k r)
      → BarsClose (ReachesSome T) (serial_forest k) (length (serial_forest k)) → ReachesSome T (record { symbol = s; children = k })
      → Walked T r (suc (suc place + length (serial_forest k))) o x → Walked T (node s k r) place o x
  walked_right s k r place o x h b p (clear d e) =
      clear (subst (BarsClose (ReachesSome T) (serial_forest (node s k r))) (sym (forest_length s k r)) (bars_right (ReachesSome T) s k r h (length (serial_forest r)) b p d)) e
  walked_right s k r place o x h b p (halts i u c n d e) =
      let z : suc (suc place + length (serial_forest k)) + i ≡ place + (2 + length (serial_forest k) + i) = omega arith in
      halts (2 + length (serial_forest k) + i) u (closes_right s k r refl c) n (bars_right (ReachesSome T) s k r h i b p d) (rw z at e)

  -- after the children, the node's own bar
  walked_own : (s : ℕ) (k r : Forest) (place : ℕ) (o x : Outcome) → SymbolsInRange (node s k r)
      → BarsClose (ReachesSome T) (serial_forest k) (length (serial_forest k)) → Walked T r (suc (suc place + length (serial_forest k))) o x
      → (b : Bool) → reaches_none T s k ≡ b → Walked T (node s k r) place o (if b then refused 14 (suc place + length (serial_forest k)) else x)
  walked_own s k r place o x h d w true e =
      let z : suc place + length (serial_forest k) ≡ place + suc (length (serial_forest k)) = omega arith in
      let n = (reaches_none_lem T sound (record { symbol = s; children = k })).0 e in
      halts (suc (length (serial_forest k))) (record { symbol = s; children = k }) (closes_first s k r h) n
      (bars_children (ReachesSome T) s k r h (length (serial_forest k)) (omega arith) d) (ap (refused 14) z)
  walked_own s k r place o x h d w false e =
      let t : Tree = record { symbol = s; children = k } in
      walked_right s k r place o x h d (state_of T t, reaches_state sound t (reaches_some T sound s k e)) w

  -- the children first
  walked_node : (s : ℕ) (k r : Forest) (place : ℕ) (o x y : Outcome) → SymbolsInRange (node s k r)
      → (BarsClose (ReachesSome T) (serial_forest k) (length (serial_forest k)) → Walked T (node s k r) place o x)
      → Walked T k (suc place) x y → Walked T (node s k r) place o y
  walked_node s k r place o x y h own (clear d e) = subst (Walked T (node s k r) place o) (sym e) (own d)
  walked_node s k r place o x y h own (halts i u c n d e) =
      let z : suc place + i ≡ place + suc i = omega arith in
      halts (suc i) u (closes_children s k r c) n (bars_children (ReachesSome T) s k r h i (omega (arith, closes_inside c)) d) (rw z at e)

  walked : (f : Forest) → SymbolsInRange f → (place : ℕ) (o : Outcome) → Walked T f place o (stuck_then T f place o)
  unfolding stuck_then SymbolsInRange serial_forest
  walked empty h place o = clear (λ i l. absurd (not-suc-le-zero l)) refl
  walked (node s k r) h place o =
      walked_node s k r place o _ _ h (λ d. walked_own s k r place o _ h d (walked r h.3 _ o) (reaches_none T s k) refl) (walked k h.2 (suc place) _)

  -- a refusal of a tree is 14, at the place that document 01 says
  pub stuck_place : (t : Tree) → SymbolsInRange (only t) → (k number place : ℕ) → accepted_then T t (result k) ≡ refused number place
      → (number ≡ 14) × UnacceptedAt T t place
  unfolding accepted_then serial
  stuck_place t h k number place e = go (walked (only t) h 0 _)
    where
      entry : ℕ
      entry = entry_of T.accepting (state_of T t)

      listed_nowhere : ltb entry (length T.accepting) ≡ false → BarsClose (ReachesSome T) (serial t) (length (serial t)) → suc place ≡ length (serial t)
          → ReachesSome T t → UnacceptedAt T t place
      listed_nowhere y d p r =
          unlisted d r.0 r.1
          (λ i l f.
          omega (arith, l, ltb-false entry (length T.accepting) y, entry_of_first T.accepting (state_of T t) i (f ∙ sym (state_reaches sound r.1))))
          p

      last : (b : Bool) → ltb entry (length T.accepting) ≡ b → BarsClose (ReachesSome T) (serial t) (length (serial t))
          → (if b then result k else refused 14 (length (serial t) - 1)) ≡ refused number place → (number ≡ 14) × UnacceptedAt T t place
      last true y d z = let x : ◌≡◌ {A = ℕ} 0 1 = cc in absurd (omega arith)
      last false y d z = (
        sym (refused_number z),
        listed_nowhere y d (omega (arith, refused_place z, serial_length t))
            (bars_each d (closes_first t.symbol t.children empty h) (omega (arith, serial_length t))),
      )

      go : Walked T (only t) 0 (if ltb entry (length T.accepting) then result k else refused 14 (length (serial t) - 1))
          (stuck_then T (only t) 0 (if ltb entry (length T.accepting) then result k else refused 14 (length (serial t) - 1)))
          → (number ≡ 14) × UnacceptedAt T t place
      go (clear d z) = last (ltb entry (length T.accepting)) refl d (sym z ∙ e)
      go (halts i u c n d z) = let y = sym z ∙ e in let x : i ≡ place = omega (arith, refused_place y) in (sym (refused_number y), rw (← x) (stuck u c n d))

  -- in a tree that reaches a state every bar closes one that does
  pub reaching_bars : {t : Tree} {q : ℕ} → SymbolsInRange (only t) → Reaches T.rows t q → BarsClose (ReachesSome T) (serial t) (length (serial t))
  unfolding serial
  reaching_bars {t} h r = go (walked (only t) h 0 (result 0)) (stuck_taken T sound r 0 (result 0))
    where
      go : {o : Outcome} → Walked T (only t) 0 (result 0) o → o ≡ result 0 → BarsClose (ReachesSome T) (serial_forest (only t)) (length (serial_forest (only t)))
      go (clear d z) e = d
      go (halts i u c n d z) e = let x : ◌≡◌ {A = ℕ} 0 1 = cc in absurd (omega arith)

  -- 14's place is one place, and no accepted tree has it
  pub not_accepted : {t : Tree} {place : ℕ} → SymbolsInRange (only t) → Accepted T t → UnacceptedAt T t place → ⊥
  not_accepted h a (stuck u c n d) = let p = bars_each (reaching_bars h a.reaches) c (closes_inside c) in n p.0 p.1
  not_accepted h a (unlisted d q r n p) = n a.entry a.listed (reaches_same sound.distinct a.reaches r)

pub not_accepted_once : {T : Table} {t : Tree} {p q : ℕ} → UnacceptedAt T t p → UnacceptedAt T t q → p ≡ q
not_accepted_once {T} {t} {p} {q} (stuck u c n d) (stuck v e m f) = go (three p q)
  where
    go : Three (p < q) (p ≡ q) (q < p) → p ≡ q
    go (lt l) = let x = bars_each f c l in absurd (n x.0 x.1)
    go (eq z) = z
    go (gt l) = let x = bars_each d e l in absurd (m x.0 x.1)
not_accepted_once (stuck u c n d) (unlisted f q r m z) = let x = bars_each f c (closes_inside c) in absurd (n x.0 x.1)
not_accepted_once (unlisted f q r m z) (stuck u c n d) = let x = bars_each f c (closes_inside c) in absurd (n x.0 x.1)
not_accepted_once (unlisted f q r m z) (unlisted g s t n y) = omega arith
