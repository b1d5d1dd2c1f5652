-- The arrays as stacks, while the entries of a tree are taken in turn. Assumes nothing.
use Rattle.std.specs.Prelude.{Some, None, Option, if◌then◌else◌}
use Prim.Native.Nat.{ℕ, zero, suc, ◌+◌, ◌*◌, ◌-◌, ◌<◌, ◌≤◌, max}
use mathlib.Core.Path.{◌≡◌, refl, sym, ap, ◌∙◌}
use mathlib.Core.Bool.{Bool, true, false, ◌&&◌, ◌||◌}
use mathlib.Core.List.{List, [], ◌∷◌, ◌++◌, map}
use native.Mathlib.Omega.{arith}
use native.Mathlib.Bridge.{le_prop}
use Rattle.std.proofs.Props.{props}
use native.Mathlib.Numerals.{add-one}
use mathlib.Core.Logic.{◌⊎◌, inl, inr, ∥∥₁_elim}
use native.Mathlib.Nat.{zero-sub, pos_of_ne-zero, eq-zero-or-pos}
use lib.ListN.{length, get_or, set, take, drop, length-set, length-drop, drop_of_length-le}
use lib.Seq.{take-nil, take_all, get_or-set_same, get_or-set_other, take-suc-set, length-take-le, take-take, get_or-take, get_or-drop}
use lib.Dec.{ltb, eqb}
use borrow.Author.Count.{below_more}
use borrow.Author.Tests.{eqb-false, ltb-false}
use Rattle.model.specs.Answers.{Outcome, refused}
use Rattle.model.specs.Table.{Row, row_is}
use Rattle.model.specs.Tree.{WellFormed}
use Rattle.model.specs.Count.{product}
use Rattle.model.specs.Value.{horner}
use Rattle.model.specs.Entries.{open_after, open_at, entry_ground, ends_too_soon}
use Rattle.model.proofs.Choice.{or_false}
use Rattle.model.proofs.Lists.{drop_next}
use Rattle.model.proofs.Rows.{row_is_true}
use Rattle.model.proofs.Values.{horner_less}
use Rattle.model.proofs.Entries.{well_formed, open_bound}
use Rattle.chains.proofs.First.{first_is}
use Rattle.rows.specs.Words.{row_no, rows_in}
use Rattle.rows.proofs.Words.{rows_long}
use Rattle.index.specs.Index.{row_found}
use Rattle.counts.specs.Chain.{target}
use Rattle.counts.specs.States.{held}
use Rattle.tree.specs.Reading.{step}
use Rattle.tree.specs.declared.Step.{Step}
use Rattle.tree.specs.declared.Step.TheVariants.{Opens, Closes}
use Rattle.tree.proofs.Laws.{open_next, opens_so, closes_so}
use Rattle.rank.specs.Machine.{Node, formed, node_by, node_of, numbered, run}
use Rattle.rank.specs.RankReady.{ValuesFit, Closable, Summable, AllCount, RankReady}
use Rattle.rank.specs.Stacked.{top_symbol, top_begin, top_states, top_values, with_open, with_closed}
use Rattle.rank.specs.Numbered.{ClosableIn, node_in, machine_in}
use Rattle.rank.specs.declared.Stack.{Stack}
use Rattle.rank.specs.declared.Numbering.{Numbering}
use Rattle.rank.proofs.Folding.{valued_below, unformed, formed_is}

-- ---- an array as a stack

-- the first d elements, the last first
unfoldable pub stack_of : ℕ → List ℕ → List ℕ
stack_of zero xs = []
stack_of (suc d) xs = get_or xs d 0 ∷ stack_of d xs

-- a store at d or above leaves the first d elements as they are
stack_same : (d j : ℕ) (xs : List ℕ) (x : ℕ) → d ≤ j → stack_of d (set xs j x) ≡ stack_of d xs
unfolding stack_of
stack_same zero j xs x le = refl
stack_same (suc d) j xs x le = rw (get_or-set_other xs j d x 0 (omega arith), stack_same d j xs x (omega arith))

push : (d : ℕ) (xs : List ℕ) (x : ℕ) → d < length xs → stack_of (d + 1) (set xs d x) ≡ x ∷ stack_of d xs
unfolding stack_of
push d xs x lt = rw (add-one d, get_or-set_same xs d x 0, stack_same d d xs x (omega arith))

pop : (d : ℕ) (xs : List ℕ) → 0 < d → stack_of d xs ≡ get_or xs (d - 1) 0 ∷ stack_of (d - 1) xs
unfolding stack_of
pop zero xs p = absurd (omega arith)
pop (suc d) xs p = let e : suc d - 1 ≡ d = omega arith in rw e

no_stack : (xs : List ℕ) → stack_of 0 xs ≡ []
unfolding stack_of
no_stack xs = refl

drop_take : (b n : ℕ) (l : List ℕ) → drop b (take n l) ≡ take (n - b) (drop b l)
drop_take zero n l = let e : n - 0 ≡ n = omega arith in rw e
drop_take (suc b) zero l = rw zero-sub
drop_take (suc b) (suc n) [] = rw take-nil
drop_take (suc b) (suc n) (x ∷ l) = let e : suc n - suc b ≡ n - b = omega arith in rw e (drop_take b n l)

-- ---- one entry of the machine

module _ (node : ℕ → List ℕ → List ℕ → Node) (end : ℕ → ℕ → ℕ → Outcome) (opens begins ws vs : List ℕ) (p : ℕ) where
  pub run_open : (e : ℕ) (es : List ℕ) → eqb e 0 ≡ false → run node end opens begins ws vs p (e ∷ es) ≡ run node end (e ∷ opens) (length ws ∷ begins) ws vs (p + 1) es
  unfolding run
  run_open e es z = rw z

  pub run_end : run node end opens begins ws vs p [] ≡ end (get_or ws 0 0) (get_or vs 0 0) (p - 1)
  unfolding run
  run_end = refl

  module _ (s b e : ℕ) (es : List ℕ) (z : eqb e 0 ≡ true) where
    pub run_close : (q v : ℕ) → node s (drop b ws) (drop b vs) ≡ Some (q, v)
        → run node end (s ∷ opens) (b ∷ begins) ws vs p (e ∷ es) ≡ run node end opens begins (take b ws ++ (q ∷ [])) (take b vs ++ (v ∷ [])) (p + 1) es
    unfolding run
    run_close q v h = rw (z, h)

    pub run_stuck : node s (drop b ws) (drop b vs) ≡ None → run node end (s ∷ opens) (b ∷ begins) ws vs p (e ∷ es) ≡ refused 14 p
    unfolding run
    run_stuck h = rw (z, h)

-- ---- one entry of a tree

-- a bar of a tree has a node open
module _ {tree : List ℕ} {i : ℕ} (well : WellFormed tree) (l : i < length tree) where
  bar_open : eqb (get_or tree i 0) 0 ≡ true → 0 < open_at tree i
  unfolding entry_ground
  bar_open z =
      let e = get_or tree i 0 in
      let d = open_at tree i in
      let none : (ltb 255 e || (eqb e 0 && eqb d 0) || (ltb 0 i && eqb d 0)) ≡ false = no_ground _ ((well_formed tree well).sound i l) in
      let a = or_false (ltb 255 e || (eqb e 0 && eqb d 0)) (ltb 0 i && eqb d 0) none in
      let b : (eqb e 0 && eqb d 0) ≡ false = (or_false (ltb 255 e) (eqb e 0 && eqb d 0) a.0).1 in
      let n : eqb d 0 ≡ false = rw z at b in
      pos_of_ne-zero (eqb-false d 0 n)
    where
      no_ground : (b : Bool) → ◌≡◌ {A = ℕ} (if b then 13 else 0) 0 → b ≡ false
      no_ground true e = let y : ◌≡◌ {A = ℕ} 0 1 = cc in absurd (omega arith)
      no_ground false e = refl

-- ---- a closed node

-- what a node found by its row is
by_row : (f : Option ℕ) (rows : List Row) (cs sums xs vs : List ℕ) (q v : ℕ) → node_by f rows cs sums xs vs ≡ Some (q, v)
    → (k : ℕ) × (f ≡ Some k) × (q ≡ target rows k) × (v ≡ formed cs sums xs vs k (target rows k))
by_row (Some k) rows cs sums xs vs q v e =
    let p : (target rows k, formed cs sums xs vs k (target rows k)) ≡ (q, v) = cc in
    (k, refl, ap (λ (x : ℕ × ℕ). x.0) (sym p), ap (λ (x : ℕ × ℕ). x.1) (sym p))
by_row None rows cs sums xs vs q v e = cc

-- what waits: one value for each state; each state has trees, and the value is below its count, or 0 in a state that counts 0
pub record Children (whole : ℕ → ℕ) (cs xs vs : List ℕ) : Type 0 where
  pub many : length vs ≡ length xs
  pub placed : (k : ℕ) → k < length xs → get_or xs k 0 < length cs
  pub reached : AllCount whole xs
  pub below : (k : ℕ) → k < length xs → get_or vs k 0 < max 1 (held cs (get_or xs k 0))

module _ {by : ℕ} {pool words heads accepting cs sums : List ℕ} (ready : RankReady by pool words heads accepting cs sums) (s : ℕ) (xs : List ℕ) where
  abbrev held_rows : List Row
  held_rows = rows_in pool words

  -- the row that is found has these arguments
  found_row : (k : ℕ) → row_found held_rows s xs ≡ Some k → (k < length words) × ((row_no held_rows k).args ≡ xs)
  found_row k e =
      let f = first_is (λ k. row_is (row_no held_rows k) s xs) (length held_rows) k e in
      (rw (rows_long pool words) at f.0, (row_is_true (row_no held_rows k) s xs f.1).1)

  module _ (vs : List ℕ) (x : Children ready.whole cs xs vs) where
    -- where its target is used, the children's values are below their counts
    valued : (k : ℕ) → row_found held_rows s xs ≡ Some k → 0 < held cs (target held_rows k) → ValuesFit cs xs vs
    valued k e p =
        let f = found_row k e in
        let a : AllCount ready.whole (row_no held_rows k).args = rw f.1 x.reached in
        let u : AllCount (held cs) xs = rw f.1 at (ready.used k f.0 a p) in
        record { many = x.many; placed = x.placed; below = λ j l. omega (arith, x.below j l, u j l) }

    share : (k : ℕ) → row_found held_rows s xs ≡ Some k → 0 < held cs (target held_rows k) → product (map (held cs) xs) + get_or sums k 0 ≤ held cs (target held_rows k)
    share k e p = let f = found_row k e in rw f.1 at (ready.shares k f.0 p)

    closes_within : Closable held_rows cs sums s xs vs
    closes_within k e =
        let l = (found_row k e).0 in
        record {
          state = ready.targets k l;
          row = omega (arith, ready.sums_room);
          valued = valued k e;
          small = λ p. omega (arith, share k e p, ready.small k l);
        }

    -- the state has a place and trees, and the value is below its count, or 0
    node_below : (q v : ℕ) → node_of held_rows cs sums s xs vs ≡ Some (q, v) → (q < length cs) × (0 < ready.whole q) × (v < max 1 (held cs q))
    unfolding node_of
    node_below q v e =
        let r = by_row (row_found held_rows s xs) held_rows cs sums xs vs q v e in
        let k = r.0 in
        let f = found_row k r.1 in
        let a : AllCount ready.whole (row_no held_rows k).args = rw f.1 x.reached in
        let q_is : q ≡ target held_rows k = r.2 in
        rw q_is (ready.targets k f.0, ready.reached k f.0 a, go k r.1 (eq-zero-or-pos (held cs (target held_rows k))) v r.3)
      where
        go : (k : ℕ) → row_found held_rows s xs ≡ Some k → (held cs (target held_rows k) ≡ 0) ⊎ (0 < held cs (target held_rows k)) → (v : ℕ) → v ≡ formed cs sums xs vs k (target held_rows k)
            → v < max 1 (held cs (target held_rows k))
        go k e (inl z) v d = omega (arith, unformed cs sums xs vs k (target held_rows k) z)
        go k e (inr p) v d =
            let h = formed_is cs sums xs vs k (target held_rows k) (λ z. omega arith) (horner (held cs) 0 xs vs) refl in
            omega (arith, h, horner_less (valued_below (valued k e p)), share k e p)

-- ---- the entries in turn

abbrev Ready : Numbering → Type 0
Ready n = RankReady n.index.by n.index.rows.pool.now n.index.rows.words.now n.index.heads.now n.accepting.now n.counts.now n.sums.now

-- the machine from a stack on
abbrev run_on : Numbering → Stack → ℕ → List ℕ → Outcome
run_on n k i es = run (node_in n) (numbered n.accepting.now n.counts.now) (stack_of k.depth k.opens.now) (stack_of k.depth k.begins.now) (take k.waits k.waiting.now) (take k.waits k.values.now) i es

-- i entries are read: the stack holds the open nodes and what waits, and the machine goes on from there
pub record Running (n : Numbering) (tree : List ℕ) (k : Stack) (i : ℕ) : Type 0 where
  pub well : WellFormed tree
  pub few : length tree ≤ 4096
  pub within : i ≤ length tree
  pub depth_is : k.depth ≡ open_at tree i
  pub opens_long : length k.opens.now ≡ 2048
  pub begins_long : length k.begins.now ≡ 2048
  pub waiting_long : length k.waiting.now ≡ 2048
  pub values_long : length k.values.now ≡ 2048
  -- a state that waits has used two entries, an open node one
  pub room : 2 * k.waits + k.depth ≤ i
  pub deep : 2 * k.depth ≤ length tree
  pub some : 0 < i → 0 < k.depth + k.waits
  pub under : (j : ℕ) → j < k.depth → get_or k.begins.now j 0 ≤ k.waits
  pub sorted : (j m : ℕ) → j ≤ m → m < k.depth → get_or k.begins.now j 0 ≤ get_or k.begins.now m 0
  pub placed : (j : ℕ) → j < k.waits → get_or k.waiting.now j 0 < length n.counts.now
  pub reached : (x : Ready n) (j : ℕ) → j < k.waits → 0 < x.whole (get_or k.waiting.now j 0)
  pub below : (j : ℕ) → j < k.waits → get_or k.values.now j 0 < max 1 (held n.counts.now (get_or k.waiting.now j 0))
  pub same : run_on n k i (drop i tree) ≡ machine_in n tree

pub running_begins : (n : Numbering) (tree : List ℕ) (k : Stack) → WellFormed tree → length tree ≤ 4096 → (k.depth ≡ 0) × (k.waits ≡ 0)
    → (length k.opens.now ≡ 2048) × (length k.begins.now ≡ 2048) × (length k.waiting.now ≡ 2048) × (length k.values.now ≡ 2048) → Running n tree k 0
unfolding open_after
running_begins n tree k well few z long =
    record {
      well = well;
      few = few;
      within = omega arith;
      depth_is = z.0;
      opens_long = long.0;
      begins_long = long.1;
      waiting_long = long.2;
      values_long = long.3;
      room = omega (arith, z.0, z.1);
      deep = omega (arith, z.0);
      some = λ l. absurd (omega arith);
      under = λ j l. absurd (omega (arith, z.0));
      sorted = λ j m le l. absurd (omega (arith, z.0));
      placed = λ j l. absurd (omega (arith, z.1));
      reached = λ x j l. absurd (omega (arith, z.1));
      below = λ j l. absurd (omega (arith, z.1));
      same = rw (z.0, z.1, no_stack k.opens.now, no_stack k.begins.now);
    }

module _ {n : Numbering} {tree : List ℕ} {k : Stack} {i : ℕ} (r : Running n tree k i) where
  abbrev cs : List ℕ
  cs = n.counts.now

  few_wait : (k.waits ≤ 2048) × (k.waits ≤ length k.waiting.now) × (k.waits ≤ length k.values.now)
  few_wait = let w : k.waits ≤ 2048 = omega (arith, r.room, r.within, r.few) in (w, omega (arith, r.waiting_long), omega (arith, r.values_long))

  module _ (l : i < length tree) where
    -- the entry at hand, and the entries after it
    here : run_on n k i (get_or tree i 0 ∷ drop (i + 1) tree) ≡ machine_in n tree
    here = rw (drop_next tree i l) at r.same

    -- the entry opens a node
    module _ {x : Step} (of : x ≡ step (get_or tree i 0)) (is : x ≡ Opens) where
      no_bar : eqb (get_or tree i 0) 0 ≡ false
      no_bar = opens_so (eqb (get_or tree i 0) 0) (sym is ∙ of)

      one_more : k.depth + 1 ≡ open_at tree (i + 1)
      one_more = omega (arith, r.depth_is, rw no_bar at (open_next tree i l))

      open_deep : 2 * (k.depth + 1) ≤ length tree
      open_deep = omega (arith, one_more, open_bound tree r.well (i + 1) (omega arith))

      pub open_room : (k.depth < length k.opens.now) × (k.depth < length k.begins.now) × (k.waits ≤ 2048)
      open_room = (omega (arith, open_deep, r.few, r.opens_long), omega (arith, open_deep, r.few, r.begins_long), few_wait.0)

      open_same : run_on n (with_open k (get_or tree i 0)) (i + 1) (drop (i + 1) tree) ≡ machine_in n tree
      open_same =
          let size : length (take k.waits k.waiting.now) ≡ k.waits = length-take-le k.waits k.waiting.now few_wait.1 in
          let h = sym (run_open (node_in n) (numbered n.accepting.now cs) (stack_of k.depth k.opens.now) (stack_of k.depth k.begins.now) (take k.waits k.waiting.now) (take k.waits k.values.now) i (get_or tree i 0) (drop (i + 1) tree)
          no_bar) ∙ here in
          rw (push k.depth k.opens.now (get_or tree i 0) open_room.0, push k.depth k.begins.now k.waits open_room.1)
          (rw size at h)

      pub node_opens : Running n tree (with_open k (get_or tree i 0)) (i + 1)
      node_opens =
          let bs = set k.begins.now k.depth k.waits in
          let there : get_or bs k.depth 0 ≡ k.waits = get_or-set_same k.begins.now k.depth k.waits 0 open_room.1 in
          let other : (j : ℕ) → j < k.depth → get_or bs j 0 ≡ get_or k.begins.now j 0 = λ j m. get_or-set_other k.begins.now k.depth j k.waits 0 (omega arith) in
          let under' : (j : ℕ) → j < k.depth + 1 → get_or bs j 0 ≤ k.waits
          = below_more (λ (j : ℕ). get_or bs j 0 ≤ k.waits) k.depth (λ j m. rw (other j m) (r.under j m)) (rw there (omega arith)) in
          record {
            well = r.well;
            few = r.few;
            within = omega arith;
            depth_is = one_more;
            opens_long = length-set k.opens.now k.depth (get_or tree i 0) ∙ r.opens_long;
            begins_long = length-set k.begins.now k.depth k.waits ∙ r.begins_long;
            waiting_long = r.waiting_long;
            values_long = r.values_long;
            room = omega (arith, r.room);
            deep = open_deep;
            some = λ p. omega arith;
            under = under';
            sorted = λ j m le lm.
                below_more (λ (m : ℕ). j ≤ m → get_or bs j 0 ≤ get_or bs m 0) k.depth
                (λ m lm le2. rw (other j (omega arith), other m lm) (r.sorted j m le2 lm))
                (λ le2. rw there (under' j (omega arith))) m lm le;
            placed = r.placed;
            reached = r.reached;
            below = r.below;
            same = open_same;
          }

    -- the entry closes the node opened last
    module _ {x : Step} (of : x ≡ step (get_or tree i 0)) (is : x ≡ Closes) where
      bar : eqb (get_or tree i 0) 0 ≡ true
      bar = closes_so (eqb (get_or tree i 0) 0) (sym is ∙ of)

      some_open : 0 < k.depth
      some_open = omega (arith, r.depth_is, bar_open r.well l bar)

      one_less : k.depth - 1 ≡ open_at tree (i + 1)
      one_less = omega (arith, r.depth_is, rw bar at (open_next tree i l))

      under_here : top_begin k ≤ k.waits
      under_here = r.under (k.depth - 1) (omega (arith, some_open))

      deep_enough : k.depth ≤ 2048
      deep_enough = omega (arith, r.deep, r.few)

      pub top_room : (0 < k.depth) × (k.depth ≤ length k.opens.now) × (k.depth ≤ length k.begins.now) × (top_begin k ≤ k.waits) × (k.waits ≤ length k.waiting.now) × (k.waits ≤ length k.values.now)
      top_room = (some_open, omega (arith, deep_enough, r.opens_long), omega (arith, deep_enough, r.begins_long), under_here, few_wait.1, few_wait.2)

      few_here : top_begin k < 2048
      few_here = omega (arith, under_here, some_open, r.room, r.within, r.few)

      pub close_room : (0 < k.depth) × (k.depth ≤ length k.begins.now) × (top_begin k < length k.waiting.now) × (top_begin k < length k.values.now)
      close_room = (some_open, omega (arith, deep_enough, r.begins_long), omega (arith, few_here, r.waiting_long), omega (arith, few_here, r.values_long))

      -- the children's states and values
      children : (x : Ready n) → Children x.whole cs (top_states k) (top_values k)
      children x =
          let b = top_begin k in
          let size = k.waits - b in
          let len_w : length (top_states k) ≡ size = length-take-le size (drop b k.waiting.now) (rw (length-drop b k.waiting.now) (omega (arith, few_wait.1, under_here))) in
          let len_v : length (top_values k) ≡ size = length-take-le size (drop b k.values.now) (rw (length-drop b k.values.now) (omega (arith, few_wait.2, under_here))) in
          let at_w : (j : ℕ) → j < size → get_or (top_states k) j 0 ≡ get_or k.waiting.now (b + j) 0 = λ j m. get_or-take size (drop b k.waiting.now) j 0 m ∙ get_or-drop b k.waiting.now j 0 in
          let at_v : (j : ℕ) → j < size → get_or (top_values k) j 0 ≡ get_or k.values.now (b + j) 0 = λ j m. get_or-take size (drop b k.values.now) j 0 m ∙ get_or-drop b k.values.now j 0 in
          record {
            many = len_v ∙ sym len_w;
            placed = λ j m. let m' : j < size = rw len_w at m in rw (at_w j m') (r.placed (b + j) (omega arith));
            reached = λ j m. let m' : j < size = rw len_w at m in rw (at_w j m') (r.reached x (b + j) (omega arith));
            below = λ j m. let m' : j < size = rw len_w at m in rw (at_w j m', at_v j m') (r.below (b + j) (omega arith));
          }

      pub close_fits : ClosableIn n (top_symbol k) (top_states k) (top_values k)
      close_fits = ∥∥₁_elim n.ready (Prim.hlevel props) (λ (x : Ready n). closes_within x (top_symbol k) (top_states k) (top_values k) (children x))

      -- the machine at the bar
      abbrev lower_symbols : List ℕ
      lower_symbols = stack_of (k.depth - 1) k.opens.now

      abbrev lower_begins : List ℕ
      lower_begins = stack_of (k.depth - 1) k.begins.now

      at_bar : run (node_in n) (numbered n.accepting.now cs) (top_symbol k ∷ lower_symbols) (top_begin k ∷ lower_begins) (take k.waits k.waiting.now) (take k.waits k.values.now) i (get_or tree i 0 ∷ drop (i + 1) tree) ≡ machine_in n tree
      at_bar = rw (pop k.depth k.opens.now top_room.0, pop k.depth k.begins.now top_room.0) at here

      parts : {o : Node} → node_in n (top_symbol k) (top_states k) (top_values k) ≡ o
          → node_in n (top_symbol k) (drop (top_begin k) (take k.waits k.waiting.now)) (drop (top_begin k) (take k.waits k.values.now)) ≡ o
      parts h = rw (drop_take (top_begin k) k.waits k.waiting.now, drop_take (top_begin k) k.waits k.values.now) h

      pub node_sticks : node_in n (top_symbol k) (top_states k) (top_values k) ≡ None → refused 14 i ≡ machine_in n tree
      node_sticks h =
          sym (run_stuck (node_in n) (numbered n.accepting.now cs) lower_symbols lower_begins (take k.waits k.waiting.now) (take k.waits k.values.now) i
          (top_symbol k) (top_begin k) (get_or tree i 0) (drop (i + 1) tree) bar (parts h))
          ∙ at_bar

      -- the front of an array after the store
      front : (xs : List ℕ) (x : ℕ) → top_begin k < length xs → take (top_begin k + 1) (set xs (top_begin k) x) ≡ take (top_begin k) (take k.waits xs) ++ (x ∷ [])
      front xs x lt = rw (add-one (top_begin k), take-suc-set xs (top_begin k) x lt, take-take (top_begin k) k.waits xs under_here)

      module _ (q v : ℕ) (h : node_in n (top_symbol k) (top_states k) (top_values k) ≡ Some (q, v)) where
        close_same : run_on n (with_closed k q v) (i + 1) (drop (i + 1) tree) ≡ machine_in n tree
        close_same =
            rw (front k.waiting.now q close_room.2, front k.values.now v close_room.3)
            (sym (run_close (node_in n) (numbered n.accepting.now cs) lower_symbols lower_begins (take k.waits k.waiting.now) (take k.waits k.values.now) i
            (top_symbol k) (top_begin k) (get_or tree i 0) (drop (i + 1) tree) bar q v (parts h))
            ∙ at_bar)

        pub node_closes : Running n tree (with_closed k q v) (i + 1)
        node_closes =
            let b = top_begin k in
            let node = λ (x : Ready n). node_below x (top_symbol k) (top_states k) (top_values k) (children x) q v h in
            let here_w : get_or (set k.waiting.now b q) b 0 ≡ q = get_or-set_same k.waiting.now b q 0 close_room.2 in
            let here_v : get_or (set k.values.now b v) b 0 ≡ v = get_or-set_same k.values.now b v 0 close_room.3 in
            let other_w : (j : ℕ) → j < b → get_or (set k.waiting.now b q) j 0 ≡ get_or k.waiting.now j 0 = λ j m. get_or-set_other k.waiting.now b j q 0 (omega arith) in
            let other_v : (j : ℕ) → j < b → get_or (set k.values.now b v) j 0 ≡ get_or k.values.now j 0 = λ j m. get_or-set_other k.values.now b j v 0 (omega arith) in
            record {
              well = r.well;
              few = r.few;
              within = omega arith;
              depth_is = one_less;
              opens_long = r.opens_long;
              begins_long = r.begins_long;
              waiting_long = length-set k.waiting.now b q ∙ r.waiting_long;
              values_long = length-set k.values.now b v ∙ r.values_long;
              room = omega (arith, r.room, under_here, some_open);
              deep = omega (arith, r.deep, some_open);
              some = λ p. omega arith;
              under = λ j m. omega (arith, r.sorted j (k.depth - 1) (omega arith) (omega (arith, some_open)));
              sorted = λ j m le lm. r.sorted j m le (omega (arith, some_open));
              placed = below_more (λ (j : ℕ). get_or (set k.waiting.now b q) j 0 < length cs) b (λ j m. rw (other_w j m) (r.placed j (omega (arith, under_here)))) (rw here_w (∥∥₁_elim n.ready le_prop (λ (x : Ready n). (node x).0)));
              reached = λ x. below_more (λ (j : ℕ). 0 < x.whole (get_or (set k.waiting.now b q) j 0)) b (λ j m. rw (other_w j m) (r.reached x j (omega (arith, under_here)))) (rw here_w (node x).1);
              below = below_more (λ (j : ℕ). get_or (set k.values.now b v) j 0 < max 1 (held cs (get_or (set k.waiting.now b q) j 0))) b
                  (λ j m. rw (other_w j m, other_v j m) (r.below j (omega (arith, under_here)))) (rw (here_w, here_v) (∥∥₁_elim n.ready le_prop (λ (x : Ready n). (node x).2)));
              same = close_same;
            }

  -- all entries are read: the root's state waits, alone
  module _ (g : length tree ≤ i) where
    ends : (eqb (length tree) 0 ≡ false) × (ltb 0 (open_after 0 tree) ≡ false)
    unfolding ends_too_soon
    ends = or_false (eqb (length tree) 0) (ltb 0 (open_after 0 tree)) (well_formed tree r.well).enough

    pub some_read : 1 ≤ length tree
    some_read = pos_of_ne-zero (eqb-false (length tree) 0 ends.0)

    one_waits : 0 < k.waits
    one_waits =
        let d : k.depth ≡ open_after 0 tree = r.depth_is ∙ ap (open_after 0) (take_all i tree g) in
        omega (arith, r.some (omega (arith, g, some_read)), ltb-false 0 (open_after 0 tree) ends.1)

    pub end_sums : Summable n.accepting.now cs (get_or k.waiting.now 0 0) (get_or k.values.now 0 0)
    end_sums = record {
      below = r.below 0 one_waits;
      placed = λ j m. ∥∥₁_elim n.ready le_prop (λ (x : Ready n). x.placed j m);
      small = ∥∥₁_elim n.ready le_prop (λ (x : Ready n). x.total);
    }

    pub tree_ends : numbered n.accepting.now cs (get_or k.waiting.now 0 0) (get_or k.values.now 0 0) (length tree - 1) ≡ machine_in n tree
    tree_ends =
        let full : length tree ≡ i = omega (arith, g, r.within) in
        let h = rw (drop_of_length-le tree {i = i} g) at r.same in
        rw full (rw (get_or-take k.waits k.waiting.now 0 0 one_waits, get_or-take k.waits k.values.now 0 0 one_waits) at
        (sym (run_end (node_in n) (numbered n.accepting.now cs) (stack_of k.depth k.opens.now) (stack_of k.depth k.begins.now) (take k.waits k.waiting.now) (take k.waits k.values.now) i) ∙ h))
