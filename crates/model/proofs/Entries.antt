-- The form of a tree's entries: those taken are the well-formed trees, 13 has the place that document 01 says, and a well-formed list is
-- read as its one tree.
use Rattle.std.specs.Prelude.{if◌then◌else◌}
use Prim.Native.Nat.{ℕ, zero, suc, ◌+◌, ◌-◌, ◌*◌, ◌≤◌, ◌<◌}
use mathlib.Core.Path.{◌≡◌, refl, ap, sym, ◌∙◌}
use mathlib.Core.Bool.{Bool, true, false, ◌&&◌, ◌||◌}
use mathlib.Core.List.{List, [], ◌∷◌, ◌++◌, append_assoc, append-nil}
use mathlib.Core.Logic.{◌⊎◌, inl, inr}
use native.Mathlib.Omega.{arith}
use native.Mathlib.Nat.{not-suc-le-zero, pos_of_ne-zero}
use lib.ListN.{length, get_or, take, drop, replicate, length-append, length-drop, take-append-drop, get_or-append}
use lib.Seq.{take-length, take-append-le, take-take, get_or-take, length-take-le}
use lib.Dec.{eqb, ltb}
use borrow.Author.Tests.{ltb-true, ltb-false, lt-ltb, le-ltb, eqb-true, eqb-false, ne_eqb}
use Rattle.model.specs.Answers.{Outcome, result, refused}
use Rattle.model.specs.Choice.{first_faulty}
use Rattle.model.specs.Tree.{Forest, Tree, empty, node, only, serial_forest, serial, SymbolsInRange, WellFormed}
use Rattle.model.specs.Entries.{open_after, open_at, entry_ground, ends_too_soon, form_then, tree_then, levels_of, first_tree, tree_from}
use Rattle.model.specs.Place.{CanGoOn, StopsAt}
use Rattle.model.proofs.Choice.{if_no, if_result, refused_number, refused_place, if_zero, or_false, or_none, not_both, no_fault, no_fault_back}
use Rattle.model.proofs.Choice.{Decided, clear, faulty, decided}
use Rattle.model.proofs.Rows.{same_list_refl}

-- no entry has a ground, and the list does not end too soon
pub record Formed (entries : List ℕ) : Type 0 where
  pub sound : (i : ℕ) → i < length entries → entry_ground entries i ≡ 0
  pub enough : ends_too_soon entries ≡ false

-- ---- one entry

and_no : (a b : Bool) → (a && b) ≡ false → a ≡ true → b ≡ false
and_no true b e y = e
and_no false b e y = absurd (not_both false y refl)

no_and : (a b : Bool) → (a ≡ true → b ≡ false) → (a && b) ≡ false
no_and true b h = h refl
no_and false b h = refl

-- the test of an entry e that stands at i, where so many nodes are open
abbrev is_faulty : (e i depth : ℕ) → Bool
is_faulty e i depth = ltb 255 e || (eqb e 0 && eqb depth 0) || (ltb 0 i && eqb depth 0)

record Sound (e i depth : ℕ) : Type 0 where
  low : e ≤ 255
  bar : e ≡ 0 → 0 < depth
  later : 0 < i → 0 < depth

not_faulty : (e i depth : ℕ) → is_faulty e i depth ≡ false → Sound e i depth
not_faulty e i depth h =
    let a = or_false (ltb 255 e || (eqb e 0 && eqb depth 0)) (ltb 0 i && eqb depth 0) h in
    let b = or_false (ltb 255 e) (eqb e 0 && eqb depth 0) a.0 in
    record {
      low = ltb-false 255 e b.0;
      bar = λ z. pos_of_ne-zero (eqb-false depth 0 (and_no (eqb e 0) (eqb depth 0) b.1 (rw z)));
      later = λ l. pos_of_ne-zero (eqb-false depth 0 (and_no (ltb 0 i) (eqb depth 0) a.1 (lt-ltb 0 i l)));
    }

sound_not_faulty : (e i depth : ℕ) → Sound e i depth → is_faulty e i depth ≡ false
sound_not_faulty e i depth s =
    let b = no_and (eqb e 0) (eqb depth 0) (λ y. ne_eqb depth 0 (λ z. omega (arith, s.bar (eqb-true e 0 y)))) in
    let l = no_and (ltb 0 i) (eqb depth 0) (λ y. ne_eqb depth 0 (λ z. omega (arith, s.later (ltb-true 0 i y)))) in
    let f = or_none (ltb 255 e) (eqb e 0 && eqb depth 0) (le-ltb 255 e s.low) b in
    or_none (ltb 255 e || (eqb e 0 && eqb depth 0)) (ltb 0 i && eqb depth 0) f l

ground_sound : (entries : List ℕ) (i : ℕ) → entry_ground entries i ≡ 0 → Sound (get_or entries i 0) i (open_at entries i)
unfolding entry_ground
ground_sound entries i e =
    not_faulty (get_or entries i 0) i (open_at entries i) (if_zero (is_faulty (get_or entries i 0) i (open_at entries i)) 12 0 e).0

sound_ground : (entries : List ℕ) (i : ℕ) → Sound (get_or entries i 0) i (open_at entries i) → entry_ground entries i ≡ 0
unfolding entry_ground
sound_ground entries i s = if_no (is_faulty (get_or entries i 0) i (open_at entries i)) 13 0 (sound_not_faulty (get_or entries i 0) i (open_at entries i) s)

ground_13 : (entries : List ℕ) (i : ℕ) → 0 < entry_ground entries i → entry_ground entries i ≡ 13
unfolding entry_ground
ground_13 entries i p = go (is_faulty (get_or entries i 0) i (open_at entries i)) p
  where
    go : (b : Bool) → 0 < (if b then 13 else 0) → ◌≡◌ {A = ℕ} (if b then 13 else 0) 13
    go true p = refl
    go false p = absurd (not-suc-le-zero p)

-- an entry's ground looks at the entries up to it only
ground_front : (entries more : List ℕ) (i : ℕ) → i < length entries → entry_ground (take (suc i) entries ++ more) i ≡ entry_ground entries i
unfolding entry_ground
ground_front entries more i l =
    let n = length-take-le (suc i) entries l in
    let a = get_or-append (take (suc i) entries) more 0 i (omega arith) ∙ get_or-take (suc i) entries i 0 (omega arith) in
    let b = take-append-le i (take (suc i) entries) more (omega arith) ∙ take-take i (suc i) entries (omega arith) in
    rw (a, b)

-- ---- the entries in turn

-- how many nodes are open after an entry
abbrev next : (depth e : ℕ) → ℕ
next depth e = if eqb e 0 then depth - 1 else suc depth

-- the entries can be read where so many nodes are open, and close them all
abbrev Reads : ℕ → List ℕ → Type 0
Reads depth [] = depth ≡ 0
Reads depth (e ∷ es) = (e ≤ 255) × (0 < depth) × Reads (next depth e) es

-- and from the first
abbrev Starts : List ℕ → Type 0
Starts [] = ⊥
Starts (e ∷ es) = (1 ≤ e) × (e ≤ 255) × Reads 1 es

less : (n : ℕ) → suc n - 1 ≡ n
less n = omega arith

reads_bar : (depth : ℕ) (es : List ℕ) → Reads depth es → Reads (suc depth) (0 ∷ es)
reads_bar depth es r = (omega arith, omega arith, rw (less depth) r)

bars_read : (n : ℕ) → Reads n (replicate n 0)
bars_read zero = refl
bars_read (suc n) = reads_bar n (replicate n 0) (bars_read n)

-- entries that can be read, with a bar for each node that is then open
fronts_read : (es : List ℕ) (depth p : ℕ) → p ≤ length es → ((i : ℕ) → i < p → (get_or es i 0 ≤ 255) × (0 < open_after depth (take i es)))
    → Reads depth (take p es ++ replicate (open_after depth (take p es)) 0)
unfolding open_after
fronts_read es depth zero l h = bars_read depth
fronts_read [] depth (suc p) l h = absurd (not-suc-le-zero l)
fronts_read (e ∷ es) depth (suc p) l h =
    ((h 0 (omega arith)).0, (h 0 (omega arith)).1, fronts_read es (next depth e) p (omega arith) (λ i m. h (suc i) (omega arith)))

read_entry : (es : List ℕ) (depth i : ℕ) → Reads depth es → i < length es → (get_or es i 0 ≤ 255) × (0 < open_after depth (take i es))
unfolding open_after
read_entry [] depth i r l = absurd (not-suc-le-zero l)
read_entry (e ∷ es) depth zero r l = (r.0, r.1)
read_entry (e ∷ es) depth (suc i) r l = read_entry es (next depth e) i r.2 (omega arith)

read_open : (es : List ℕ) (depth : ℕ) → Reads depth es → open_after depth es ≡ 0
unfolding open_after
read_open [] depth r = r
read_open (e ∷ es) depth r = read_open es (next depth e) r.2

open_first : (e : ℕ) (es : List ℕ) → 1 ≤ e → open_after 0 (e ∷ es) ≡ open_after 1 es
unfolding open_after
open_first e es l = rw (ne_eqb e 0 (λ z. omega arith))

start_open : (entries : List ℕ) → Starts entries → open_after 0 entries ≡ 0
start_open [] s = absurd s
start_open (e ∷ es) s = open_first e es s.0 ∙ read_open es 1 s.2

open_none : open_after 0 [] ≡ 0
unfolding open_after
open_none = refl

later_entry : (e : ℕ) (es : List ℕ) (i : ℕ) → 1 ≤ e → entry_ground (e ∷ es) (suc i) ≡ 0 → (get_or es i 0 ≤ 255) × (0 < open_after 1 (take i es))
later_entry e es i m h =
    let s = ground_sound (e ∷ es) (suc i) h in
    (s.low, omega (arith, s.later (omega arith), open_first e (take i es) m))

front_starts : (entries : List ℕ) (p : ℕ) → 0 < p → p ≤ length entries → ((i : ℕ) → i < p → entry_ground entries i ≡ 0)
    → Starts (take p entries ++ replicate (open_at entries p) 0)
front_starts entries zero z l h = absurd (not-suc-le-zero z)
front_starts [] (suc p) z l h = absurd (not-suc-le-zero l)
front_starts (e ∷ es) (suc p) z l h =
    let s = ground_sound (e ∷ es) 0 (h 0 (omega arith)) in
    let m : 1 ≤ e = pos_of_ne-zero (λ y. omega (arith, s.bar y, open_none)) in
    let r = fronts_read es 1 p (omega arith) (λ i k. later_entry e es i m (h (suc i) (omega arith))) in
    (m, s.low, rw (open_first e (take p es) m) r)

starts_formed : (entries : List ℕ) → Starts entries → Formed entries
unfolding ends_too_soon
starts_formed [] s = absurd s
starts_formed (e ∷ es) s =
    let o = start_open (e ∷ es) s in
    let n = ne_eqb (suc (length es)) 0 (λ z. omega arith) in
    let c = le-ltb 0 (open_after 0 (e ∷ es)) (omega arith) in
    record { sound = sound; enough = or_none (eqb (suc (length es)) 0) (ltb 0 (open_after 0 (e ∷ es))) n c }
  where
    sound : (i : ℕ) → i < suc (length es) → entry_ground (e ∷ es) i ≡ 0
    sound zero l = sound_ground (e ∷ es) 0 (record { low = s.1; bar = λ z. absurd (omega (arith, s.0)); later = λ z. absurd (not-suc-le-zero z) })
    sound (suc i) l =
        let r = read_entry es 1 i s.2 (omega arith) in
        let d : 0 < open_after 0 (e ∷ take i es) = omega (arith, open_first e (take i es) s.0, r.1) in
        sound_ground (e ∷ es) (suc i) (record { low = r.0; bar = λ z. d; later = λ z. d })

formed_starts : (entries : List ℕ) → Formed entries → Starts entries
unfolding ends_too_soon
formed_starts entries f =
    let a = or_false (eqb (length entries) 0) (ltb 0 (open_after 0 entries)) f.enough in
    let z = pos_of_ne-zero (eqb-false (length entries) 0 a.0) in
    let o : open_after 0 entries ≡ 0 = omega (arith, ltb-false 0 (open_after 0 entries) a.1) in
    rw (take-length entries, o, append-nil entries) at (front_starts entries (length entries) z (omega arith) f.sound)

-- ---- forests

reads_forest : (f : Forest) (depth : ℕ) (es : List ℕ) → SymbolsInRange f → Reads (suc depth) es → Reads (suc depth) (serial_forest f ++ es)
unfolding serial_forest SymbolsInRange
reads_forest empty depth es h r = r
reads_forest (node s k f) depth es h r =
    let a = reads_bar (suc depth) (serial_forest f ++ es) (reads_forest f depth es h.3 r) in
    let b = reads_forest k (suc depth) (0 ∷ (serial_forest f ++ es)) h.2 a in
    (h.1, omega arith, rw (ne_eqb s 0 (λ z. omega (arith, h.0)), append_assoc (serial_forest k) (0 ∷ serial_forest f) es) b)

well_starts : (entries : List ℕ) → WellFormed entries → Starts entries
unfolding serial serial_forest SymbolsInRange
well_starts entries w =
    rw (← w.written) (w.symbols.0, w.symbols.1, reads_forest w.tree.children 0 (0 ∷ []) w.symbols.2 (reads_bar 0 [] refl))

-- the list that closes the levels
close : List Forest → List ℕ
close [] = []
close (f ∷ fs) = serial_forest f ++ 0 ∷ close fs

abbrev AllInRange : List Forest → Type 0
AllInRange [] = Unit {0}
AllInRange (f ∷ fs) = SymbolsInRange f × AllInRange fs

record Closes (depth : ℕ) (es : List ℕ) : Type 0 where
  levels : List Forest
  deep : length levels ≡ depth
  symbols : AllInRange levels
  written : close levels ≡ es

close_node : (s : ℕ) (k f : Forest) (fs : List Forest) → close (node s k f ∷ fs) ≡ s ∷ close (k ∷ f ∷ fs)
unfolding close serial_forest
close_node s k f fs = ap (λ (l : List ℕ). s ∷ l) (append_assoc (serial_forest k) (0 ∷ serial_forest f) (0 ∷ close fs))

closes_symbol : (s depth : ℕ) (es : List ℕ) → suc s ≤ 255 → 0 < depth → Closes (suc depth) es → Closes depth (suc s ∷ es)
unfolding SymbolsInRange
closes_symbol s depth es l z c = by c.levels c.deep c.symbols c.written
  where
    by : (fs : List Forest) → length fs ≡ suc depth → AllInRange fs → close fs ≡ es → Closes depth (suc s ∷ es)
    by [] d h e = absurd (omega arith)
    by (k ∷ []) d h e = absurd (omega arith)
    by (k ∷ f ∷ fs) d h e =
        record {
          levels = node (suc s) k f ∷ fs;
          deep = omega arith;
          symbols = ((omega arith, l, h.0, h.1.0), h.1.1);
          written = close_node (suc s) k f fs ∙ ap (λ (l : List ℕ). suc s ∷ l) e;
        }

read_closes : (es : List ℕ) (depth : ℕ) → Reads depth es → Closes depth es
unfolding close serial_forest SymbolsInRange
read_closes [] depth r = record { levels = []; deep = sym r; symbols = tt; written = refl }
read_closes (zero ∷ es) zero r = absurd (not-suc-le-zero r.1)
read_closes (zero ∷ es) (suc depth) r =
    let c = read_closes es depth (rw (less depth) at r.2) in
    record { levels = empty ∷ c.levels; deep = ap suc c.deep; symbols = (tt, c.symbols); written = ap (λ (l : List ℕ). 0 ∷ l) c.written }
read_closes (suc s ∷ es) depth r =
    closes_symbol s depth es r.0 r.1 (read_closes es (suc depth) (rw (ne_eqb (suc s) 0 (λ z. omega arith)) at r.2))

starts_well : (entries : List ℕ) → Starts entries → WellFormed entries
unfolding close serial serial_forest SymbolsInRange
starts_well [] s = absurd s
starts_well (e ∷ es) s = let c = read_closes es 1 s.2 in by c.levels c.deep c.symbols c.written
  where
    by : (fs : List Forest) → length fs ≡ 1 → AllInRange fs → close fs ≡ es → WellFormed (e ∷ es)
    by [] d h w = absurd (omega arith)
    by (f ∷ []) d h w =
        record {
          tree = record { symbol = e; children = f };
          symbols = (s.0, s.1, h.0, tt);
          written = ap (λ (l : List ℕ). e ∷ l) w;
        }
    by (f ∷ g ∷ fs) d h w = absurd (omega arith)

-- a list without a fault of form is a well-formed tree
pub formed_well : (entries : List ℕ) → Formed entries → WellFormed entries
formed_well entries f = starts_well entries (formed_starts entries f)

-- a well-formed tree has no fault of form
pub well_formed : (entries : List ℕ) → WellFormed entries → Formed entries
well_formed entries w = starts_formed entries (well_starts entries w)

-- ---- refusal 13

-- what follows where no entry has a ground
abbrev short_or : List ℕ → Outcome → Outcome
short_or entries o = if ends_too_soon entries then refused 13 (length entries) else o

-- a list without a fault of form is taken
pub form_taken : (entries : List ℕ) → Formed entries → (o : Outcome) → form_then entries o ≡ o
unfolding form_then
form_taken entries f o =
    no_fault (length entries) (entry_ground entries) (short_or entries o) f.sound
    ∙ if_no (ends_too_soon entries) (refused 13 (length entries)) o f.enough

-- a list that is taken has no fault of form
pub form_back : (entries : List ℕ) (t : ℕ) (o : Outcome) → form_then entries o ≡ result t → Formed entries × (o ≡ result t)
unfolding form_then
form_back entries t o e =
    let a = no_fault_back (length entries) t (entry_ground entries) (short_or entries o) e in
    let b = if_result (ends_too_soon entries) 13 (length entries) t o a.1 in
    (record { sound = a.0; enough = b.0 }, b.1)

can_go_on : (entries : List ℕ) (p : ℕ) → p ≤ length entries → ((i : ℕ) → i < p → entry_ground entries i ≡ 0) → CanGoOn WellFormed (take p entries)
can_go_on entries zero l h = record { more = 1 ∷ 0 ∷ []; whole = starts_well (1 ∷ 0 ∷ []) (omega arith, omega arith, reads_bar 0 [] refl) }
can_go_on entries (suc p) l h =
    record {
      more = replicate (open_at entries (suc p)) 0;
      whole = starts_well (take (suc p) entries ++ replicate (open_at entries (suc p)) 0) (front_starts entries (suc p) (omega arith) l h);
    }

stops_fault : (entries : List ℕ) (p : ℕ) → p < length entries → ((i : ℕ) → i < p → entry_ground entries i ≡ 0) → 0 < entry_ground entries p
    → StopsAt WellFormed entries p
stops_fault entries p l h g =
    record {
      within = omega arith;
      can = can_go_on entries p (omega arith) h;
      cannot = cannot;
      short = λ w. omega (arith, (well_formed entries w).sound p l);
    }
  where
    cannot : p < length entries → CanGoOn WellFormed (take (suc p) entries) → ⊥
    cannot m c =
        let n = length-append (take (suc p) entries) c.more in
        let k = length-take-le (suc p) entries l in
        let z = (well_formed (take (suc p) entries ++ c.more) c.whole).sound p (omega arith) in
        omega (arith, z, ground_front entries c.more p l)

stops_short : (entries : List ℕ) → ((i : ℕ) → i < length entries → entry_ground entries i ≡ 0) → ends_too_soon entries ≡ true
    → StopsAt WellFormed entries (length entries)
stops_short entries h e =
    record {
      within = omega arith;
      can = can_go_on entries (length entries) (omega arith) h;
      cannot = λ l c. absurd (omega arith);
      short = λ w. not_both (ends_too_soon entries) e (well_formed entries w).enough;
    }

-- a refusal is 13, at the first entry with which no tree can go on, or at the list's length if it ends too soon; or the list is a tree, and
-- what follows is the refusal
pub form_place : (entries : List ℕ) (k p : ℕ) (o : Outcome) → form_then entries o ≡ refused k p
    → ((k ≡ 13) × StopsAt WellFormed entries p) ⊎ (WellFormed entries × (o ≡ refused k p))
unfolding form_then
form_place entries k p o e = go (decided (length entries) (entry_ground entries) (short_or entries o))
  where
    ends : (b : Bool) → ends_too_soon entries ≡ b → ((i : ℕ) → i < length entries → entry_ground entries i ≡ 0)
        → (if b then refused 13 (length entries) else o) ≡ refused k p
        → ((k ≡ 13) × StopsAt WellFormed entries p) ⊎ (WellFormed entries × (o ≡ refused k p))
    ends true y h d = inl (sym (refused_number d), rw (← refused_place d) (stops_short entries h y))
    ends false y h d = inr (formed_well entries (record { sound = h; enough = y }), d)

    go : Decided (length entries) (entry_ground entries) (short_or entries o) (first_faulty (length entries) (entry_ground entries) (short_or entries o))
        → ((k ≡ 13) × StopsAt WellFormed entries p) ⊎ (WellFormed entries × (o ≡ refused k p))
    go (clear h d) = ends (ends_too_soon entries) refl h (sym d ∙ e)
    go (faulty i l h g d) =
        let r = sym d ∙ e in
        inl (sym (refused_number r) ∙ ground_13 entries i g, rw (← refused_place r) (stops_fault entries i l h g))

-- ---- the tree of a list

-- the trees of one forest before those of another
abbrev beside : Forest → Forest → Forest
beside empty g = g
beside (node s k r) g = node s k (beside r g)

beside_empty : (f : Forest) → beside f empty ≡ f
beside_empty empty = refl
beside_empty (node s k r) = ap (node s k) (beside_empty r)

levels_forest : (f g : Forest) (es : List ℕ) (levels : List Forest) → SymbolsInRange f → levels_of es ≡ g ∷ levels
    → levels_of (serial_forest f ++ es) ≡ beside f g ∷ levels
unfolding serial_forest SymbolsInRange levels_of
levels_forest empty g es levels h e = e
levels_forest (node zero k r) g es levels h e = absurd (not-suc-le-zero h.0)
levels_forest (node (suc s) k r) g es levels h e =
    let a = levels_forest r g es levels h.3 e in
    let b = levels_forest k empty (0 ∷ (serial_forest r ++ es)) (beside r g ∷ levels) h.2 (rw a) in
    rw (append_assoc (serial_forest k) (0 ∷ serial_forest r) es, b, beside_empty k)

tree_read : (t : Tree) → SymbolsInRange (only t) → first_tree (levels_of (serial t)) ≡ t
unfolding serial
tree_read t h =
    ap first_tree (sym (ap levels_of (append-nil (serial_forest (only t)))) ∙ levels_forest (only t) empty [] [] h (unfold levels_of in refl))

-- the entries of a tree are read as the tree
pub tree_of_lem : (t : Tree) → SymbolsInRange (only t) → tree_from (serial t) ≡ t
unfolding tree_from
tree_of_lem t h = rw (tree_read t h, same_list_refl (serial t))

-- a well-formed list is read as its tree
pub tree_from_lem : (entries : List ℕ) → (w : WellFormed entries) → tree_from entries ≡ w.tree
tree_from_lem entries w = ap tree_from (sym w.written) ∙ tree_of_lem w.tree w.symbols

-- and the tree's entries are the list
pub tree_serial : (entries : List ℕ) → WellFormed entries → serial (tree_from entries) ≡ entries
tree_serial entries w = ap serial (tree_from_lem entries w) ∙ w.written

-- ---- how many nodes are open

open_rises : (depth : ℕ) (es : List ℕ) → open_after depth es ≤ depth + length es
unfolding open_after
open_rises depth [] = omega arith
open_rises depth (e ∷ es) = go (eqb e 0) (open_rises (next depth e) es)
  where
    go : (b : Bool) → open_after (next depth e) es ≤ (if b then depth - 1 else suc depth) + length es → open_after (next depth e) es ≤ depth + suc (length es)
    go true h = omega arith
    go false h = omega arith

open_falls : (depth : ℕ) (es : List ℕ) → depth ≤ open_after depth es + length es
unfolding open_after
open_falls depth [] = omega arith
open_falls depth (e ∷ es) = go (eqb e 0) (open_falls (next depth e) es)
  where
    go : (b : Bool) → (if b then depth - 1 else suc depth) ≤ open_after (next depth e) es + length es → depth ≤ open_after (next depth e) es + suc (length es)
    go true h = omega arith
    go false h = omega arith

pub open_append : (depth : ℕ) (xs ys : List ℕ) → open_after depth (xs ++ ys) ≡ open_after (open_after depth xs) ys
unfolding open_after
open_append depth [] ys = refl
open_append depth (x ∷ xs) ys = open_append (next depth x) xs ys

-- at most half as many nodes are open as there are entries: "so at most 2,048 nodes can be open or waiting while it is read"
pub open_bound : (entries : List ℕ) → WellFormed entries → (i : ℕ) → i ≤ length entries → 2 * open_at entries i ≤ length entries
open_bound entries w i l =
    let o = start_open entries (well_starts entries w) in
    let e = ap (open_after 0) (take-append-drop i entries) in
    omega (
      arith,
      o,
      e,
      open_append 0 (take i entries) (drop i entries),
      open_rises 0 (take i entries),
      open_falls (open_at entries i) (drop i entries),
      length-take-le i entries l,
      length-drop i entries,
    )

-- ---- refusals 12 and 13

-- a well-formed tree of at most 4,096 entries is taken
pub tree_then_taken : (entries : List ℕ) → WellFormed entries → length entries ≤ 4096 → (o : Outcome) → tree_then entries o ≡ o
unfolding tree_then
tree_then_taken entries w l o =
    if_no (ltb 4096 (length entries)) (refused 12 0) (form_then entries o) (le-ltb 4096 (length entries) l)
    ∙ form_taken entries (well_formed entries w) o

-- a list that is taken is one
pub tree_then_back : (entries : List ℕ) (t : ℕ) (o : Outcome) → tree_then entries o ≡ result t
    → WellFormed entries × (length entries ≤ 4096) × (o ≡ result t)
unfolding tree_then
tree_then_back entries t o e =
    let a = if_result (ltb 4096 (length entries)) 12 0 t (form_then entries o) e in
    let b = form_back entries t o a.1 in
    (formed_well entries b.0, ltb-false 4096 (length entries) a.0, b.1)
