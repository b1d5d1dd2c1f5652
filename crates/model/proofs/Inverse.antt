-- What reading and writing a term take, that they are inverse on what both take, what the lent lists then hold, and the entries of a term.
use Prim.Native.Nat.{ℕ, ◌≤◌}
use mathlib.Core.Path.{◌≡◌, refl, ap, sym, subst, ◌∙◌}
use mathlib.Core.List.{List, [], ◌∷◌, ◌++◌, append_assoc}
use native.Mathlib.Omega.{arith}
use lib.ListN.{length, take, drop}
use lib.Dec.{ltb}
use borrow.Author.Tests.{ltb-false, le-ltb}
use Rattle.model.specs.Answers.{Outcome, result, lent_after}
use Rattle.model.specs.Tree.{Forest, Tree, empty, node, only, serial_forest, serial, SymbolsInRange, WellFormed}
use Rattle.model.specs.Names.{symbol_of}
use Rattle.model.specs.Term.{Terms, Term, none, term, alone, text_of, AllNames, IsTerm, term_from}
use Rattle.model.specs.TermOperations.{symbols_of, names_of, tree_of_term, term_of_tree, AllListed, entries_of, bytes_of, name_ground, read_term_outcome, symbol_ground, write_term_outcome, read_term_list, write_term_list}
use Rattle.model.specs.Inverse.{Writable, WriteTaken, Readable, ReadTaken, WrittenReads, ReadWrites, ReadLent, WriteLent, entries_each, EntriesSentence}
use Rattle.model.specs.Spelling.{respelt, WrittenSpelling}
use Rattle.model.proofs.Choice.{if_no, if_result, no_fault, no_fault_back}
use Rattle.model.proofs.Writing.{lent_all, lent_front, lent_told}
use Rattle.model.proofs.Entries.{tree_from_lem, tree_then_taken, tree_then_back}
use Rattle.model.proofs.Scan.{texts, terms_texts, name_from, applied_from, term_of, term_from_lem, term_or_taken, term_or_back}
use Rattle.model.proofs.Names.{Sound, names_list, list_sound, names_taken, names_back, symbol_of_name, name_of_symbol, name_is}
use Rattle.model.proofs.Listed.{AllNamed, listed_names, names_listed, low_named, named_low, symbol_low, low_symbol, text_bound}
use Rattle.model.proofs.Spelling.{respelt_length, respelling, respelt_term}

-- ---- names and symbols, there and back

-- the names of symbols that have names are names
pub named_names : (names : List ℕ) → Sound names → (f : Forest) → AllNamed names f → AllNames (names_of names f)
unfolding AllNamed AllNames names_of
named_names names h empty a = tt
named_names names h (node s children right) a = (name_is names h s a.0 a.1, named_names names h children a.2, named_names names h right a.3)

-- the names of symbols that have names are listed
pub named_listed : (names : List ℕ) → Sound names → (f : Forest) → AllNamed names f → AllListed names (names_of names f)
unfolding AllNamed AllListed names_of
named_listed names h empty a = tt
named_listed names h (node s children right) a =
    ((symbol_of_name names h s a.0 a.1).1, named_listed names h children a.2, named_listed names h right a.3)

-- symbols that have names are in range
pub named_range : (names : List ℕ) → Sound names → (f : Forest) → AllNamed names f → SymbolsInRange f
unfolding AllNamed SymbolsInRange
named_range names h empty a = tt
named_range names h (node s children right) a = (a.0, omega (arith, h.few, a.1), named_range names h children a.2, named_range names h right a.3)

-- from symbols that have names to the names and back
pub symbols_names : (names : List ℕ) → Sound names → (f : Forest) → AllNamed names f → symbols_of names (names_of names f) ≡ f
unfolding AllNamed symbols_of names_of
symbols_names names h empty a = refl
symbols_names names h (node s children right) a =
    λ i. node ((symbol_of_name names h s a.0 a.1).0 i) (symbols_names names h children a.2 i) (symbols_names names h right a.3 i)

-- the symbols of listed names have names
pub listed_named : (names : List ℕ) (f : Terms) → AllListed names f → AllNamed names (symbols_of names f)
unfolding AllNamed AllListed symbols_of
listed_named names none a = tt
listed_named names (term n inner right) a =
    let p = name_of_symbol names n a.0 in
    (p.1, p.2, listed_named names inner a.1, listed_named names right a.2)

-- a tree, its term, and its tree again
tree_term : (names : List ℕ) → Sound names → (t : Tree) → AllNamed names (only t) → tree_of_term names (term_of_tree names t) ≡ t
unfolding AllNamed
tree_term names h t a =
    λ i. record { symbol = (symbol_of_name names h t.symbol a.0 a.1).0 i; children = symbols_names names h t.children a.2 i }

-- ---- the entries of a term, by texts alone

entries_are : (names : List ℕ) (f : Terms) → AllNames f → serial_forest (symbols_of names f) ≡ entries_each names (texts f)
unfolding AllNames symbols_of serial_forest serial entries_of entries_each texts
entries_are names none h = refl
entries_are names (term n inner right) h =
    let t : Term = record { name = n; inner = inner } in
    sym (append_assoc (symbol_of names n ∷ serial_forest (symbols_of names inner)) (0 ∷ []) (serial_forest (symbols_of names right)))
    ∙ ap (λ (x : Term). serial (tree_of_term names x) ++ serial_forest (symbols_of names right)) (sym (term_of t (h.0, h.1, tt)))
    ∙ ap (λ (x : List ℕ). entries_of names (text_of t) ++ x) (entries_are names right h.2)

pub entries_sentence : EntriesSentence
unfolding serial_forest serial entries_of symbols_of
entries_sentence names text = (
  λ e. ap (λ (t : Term). serial (tree_of_term names t)) (name_from text e),
  λ a.
      let r = terms_texts a.terms a.each in
      ap (λ (t : Term). serial (tree_of_term names t)) (applied_from text a r)
      ∙ ap (λ (x : List ℕ). symbol_of names a.name ∷ (x ++ 0 ∷ []))
      (entries_are names r.are r.names ∙ ap (entries_each names) r.written),
)

-- ---- what writing takes

result_is : {m n : ℕ} → result m ≡ result n → n ≡ m
result_is e = cc

-- what can be written is written where there is room for its bytes
pub write_taken : (names tree : List ℕ) (room : ℕ) → Writable names tree → length (bytes_of names tree) ≤ room
    → write_term_outcome names tree room ≡ result (length (bytes_of names tree))
unfolding write_term_outcome
write_taken names tree room w l =
    names_taken names (list_sound names w.list) _
    ∙ tree_then_taken tree w.well w.few _
    ∙ no_fault (length tree) (symbol_ground names tree) _ (λ i m. low_symbol names tree i (w.named i m))
    ∙ if_no (ltb room (length (bytes_of names tree))) _ _ (le-ltb room (length (bytes_of names tree)) l)

-- only that is written, and the result is the count of its bytes, for which there is room
pub write_back : (names tree : List ℕ) (room n : ℕ) → write_term_outcome names tree room ≡ result n
    → Writable names tree × (n ≡ length (bytes_of names tree)) × (n ≤ room)
unfolding write_term_outcome
write_back names tree room n e =
    let a = names_back names n _ e in
    let b = tree_then_back tree n _ a.1 in
    let c = no_fault_back (length tree) n (symbol_ground names tree) _ b.2 in
    let d = if_result (ltb room (length (bytes_of names tree))) 24 (length (bytes_of names tree)) n _ c.1 in
    let z : n ≡ length (bytes_of names tree) = result_is d.1 in (
      record { list = names_list names a.0; few = b.1; well = b.0; named = λ i l. symbol_low names tree i (c.0 i l) },
      z,
      omega (arith, ltb-false room (length (bytes_of names tree)) d.0),
    )

pub write_exactly : WriteTaken
write_exactly names tree room n =
    (write_back names tree room n, λ p. write_taken names tree room p.0 (omega (arith, p.1, p.2)) ∙ ap result (sym p.1))

-- ---- what reading takes

-- what can be read is read where there is room for its entries
pub read_taken : (names text : List ℕ) (room : ℕ) → Readable names text → length (entries_of names text) ≤ room
    → read_term_outcome names text room ≡ result (length (entries_of names text))
unfolding read_term_outcome
read_taken names text room r l =
    names_taken names (list_sound names r.list) _
    ∙ if_no (ltb 65536 (length text)) _ _ (le-ltb 65536 (length text) r.short)
    ∙ term_or_taken text r.well _
    ∙ no_fault (length text) (name_ground names text) _ (names_listed names text r.well r.listed)
    ∙ if_no (ltb 4096 (length (entries_of names text))) _ _ (le-ltb 4096 (length (entries_of names text)) r.few)
    ∙ if_no (ltb room (length (entries_of names text))) _ _ (le-ltb room (length (entries_of names text)) l)

-- only that is read, and the result is the count of its entries, for which there is room
pub read_back : (names text : List ℕ) (room n : ℕ) → read_term_outcome names text room ≡ result n
    → Readable names text × (n ≡ length (entries_of names text)) × (n ≤ room)
unfolding read_term_outcome
read_back names text room n e =
    let needed = length (entries_of names text) in
    let a = names_back names n _ e in
    let b = if_result (ltb 65536 (length text)) 18 0 n _ a.1 in
    let c = term_or_back text n _ b.1 in
    let d = no_fault_back (length text) n (name_ground names text) _ c.1 in
    let f = if_result (ltb 4096 needed) 21 0 n _ d.1 in
    let g = if_result (ltb room needed) 22 needed n _ f.1 in
    let z : n ≡ needed = result_is g.1 in (
      record {
        list = names_list names a.0;
        short = ltb-false 65536 (length text) b.0;
        well = c.0;
        listed = listed_names names text c.0 d.0;
        few = ltb-false 4096 needed f.0;
      },
      z,
      omega (arith, ltb-false room needed g.0),
    )

pub read_exactly : ReadTaken
read_exactly names text room n =
    (read_back names text room n, λ p. read_taken names text room p.0 (omega (arith, p.1, p.2)) ∙ ap result (sym p.1))

-- ---- the lent list

-- "A refusal writes to no lent list."; "written at the front; later entries stay"
pub read_lent : ReadLent
unfolding read_term_list
read_lent names text tree = lent_told (read_term_outcome names text (length tree)) (entries_of names text) tree (λ n e. let p = read_back names text (length tree) n e in (p.1, p.2))

pub write_lent : WriteLent
unfolding write_term_list
write_lent names tree text = lent_told (write_term_outcome names tree (length text)) (bytes_of names tree) text (λ n e. let p = write_back names tree (length text) n e in (p.1, p.2))

-- what one operation writes at the front, the other takes, and it gives back the list that was taken first
there_and_back : (outcome : List ℕ → ℕ → Outcome) (back : List ℕ → List ℕ) (o : Outcome) (n : ℕ) (first written old lent : List ℕ)
    → o ≡ result n → n ≡ length written → back written ≡ first → outcome written (length lent) ≡ result (length (back written))
    → (outcome (take n (lent_after o written old)) (length lent) ≡ result (length first))
    × (lent_after (outcome (take n (lent_after o written old)) (length lent)) (back (take n (lent_after o written old))) lent ≡ first ++ drop (length first) lent)
there_and_back outcome back o n first written old lent e l same r =
    subst (λ (x : List ℕ). (outcome x (length lent) ≡ result (length first)) × (lent_after (outcome x (length lent)) (back x) lent ≡ first ++ drop (length first) lent))
    (sym (lent_front o n written old e l)) (
      r ∙ ap (λ (x : List ℕ). result (length x)) same,
      lent_all (outcome written (length lent)) _ (back written) lent r ∙ ap (λ (x : List ℕ). x ++ drop (length x) lent) same,
    )

-- ---- a written tree is read

module _ (names tree : List ℕ) (w : Writable names tree) where
  sound_names : Sound names
  sound_names = list_sound names w.list

  tree_named : AllNamed names (only w.well.tree)
  tree_named = low_named names tree w.well w.named

  written_text : IsTerm (bytes_of names tree)
  unfolding bytes_of names_of
  written_text =
      record {
        is = term_of_tree names w.well.tree;
        names = named_names names sound_names (only w.well.tree) tree_named;
        written = ap (λ (t : Tree). text_of (term_of_tree names t)) (sym (tree_from_lem tree w.well));
      }

  written_entries : entries_of names (bytes_of names tree) ≡ tree
  unfolding entries_of written_text
  written_entries =
      ap (λ (t : Term). serial (tree_of_term names t)) (term_from_lem (bytes_of names tree) written_text)
      ∙ ap serial (tree_term names sound_names w.well.tree tree_named)
      ∙ w.well.written

  written_read : Readable names (bytes_of names tree)
  unfolding names_of written_text
  written_read =
      record {
        list = w.list;
        short = omega (
          arith,
          ap length written_text.written,
          ap length w.well.written,
          w.few,
          text_bound names sound_names w.well.tree tree_named,
        );
        well = written_text;
        listed = named_listed names sound_names (only w.well.tree) tree_named;
        few = rw written_entries w.few;
      }

-- reading a written term gives back the tree
pub written_reads : WrittenReads
unfolding write_term_list read_term_list
written_reads names tree text n e lent l =
    let p = write_back names tree (length text) n e in
    let same = written_entries names tree p.0 in
    there_and_back (read_term_outcome names) (entries_of names) (write_term_outcome names tree (length text)) n tree (bytes_of names tree) text lent e p.1 same
    (read_taken names (bytes_of names tree) (length lent) (written_read names tree p.0) (rw same l))

-- ---- a read term is written

module _ (names text : List ℕ) (r : Readable names text) where
  read_listed : AllListed names (alone (term_from text))
  read_listed = subst (λ (t : Term). AllListed names (alone t)) (sym (term_from_lem text r.well)) r.listed

  read_named_lem : AllNamed names (only (tree_of_term names (term_from text)))
  unfolding symbols_of
  read_named_lem = listed_named names (alone (term_from text)) read_listed

  read_tree : WellFormed (entries_of names text)
  unfolding entries_of
  read_tree =
      record {
        tree = tree_of_term names (term_from text);
        symbols = named_range names (list_sound names r.list) (only (tree_of_term names (term_from text))) read_named_lem;
        written = refl;
      }

  -- the bytes of its tree are the text in the list's spelling
  read_bytes : bytes_of names (entries_of names text) ≡ respelt names text
  unfolding bytes_of read_tree
  read_bytes =
      ap (λ (t : Tree). text_of (term_of_tree names t)) (tree_from_lem (entries_of names text) read_tree)
      ∙ ap (λ (t : Term). text_of (term_of_tree names (tree_of_term names t))) (term_from_lem text r.well)
      ∙ sym (respelt_term names text r.well r.listed)

  read_written : Writable names (entries_of names text)
  unfolding read_tree
  read_written = record { list = r.list; few = r.few; well = read_tree; named = named_low names (entries_of names text) read_tree read_named_lem }

-- writing a read term gives the text in the list's spelling
pub read_writes : ReadWrites
unfolding write_term_list read_term_list
read_writes names text tree n e lent l =
    let p = read_back names text (length tree) n e in
    let same = read_bytes names text p.0 in
    let long = respelt_length names text in
    let q = there_and_back (write_term_outcome names) (bytes_of names) (read_term_outcome names text (length tree)) n (respelt names text) (entries_of names text) tree
    lent e p.1 same (write_taken names (entries_of names text) (length lent) (read_written names text p.0) (rw (same, long) l)) in
    (q.0 ∙ ap result long, q.1 ∙ ap (λ (k : ℕ). respelt names text ++ drop k lent) long)

-- what is written is in the list's spelling
pub written_spelling : WrittenSpelling
written_spelling names tree room n e =
    let w = (write_back names tree room n e).0 in
    (respelling names (bytes_of names tree)).same.0
    (sym (read_bytes names (bytes_of names tree) (written_read names tree w)) ∙ ap (bytes_of names) (written_entries names tree w))
