-- "two trees are the same if their lists are": where symbols are in range, a serial form has one reading.
use Prim.Native.Nat.{ℕ}
use mathlib.Core.Path.{◌≡◌, refl, ap, sym, ◌∙◌}
use mathlib.Core.List.{List, [], ◌∷◌, ◌++◌, append_assoc, head-eq_of_cons-eq, tail-eq_of_cons-eq}
use native.Mathlib.Omega.{arith}
use Rattle.model.specs.Tree.{Forest, Tree, empty, node, only, serial_forest, serial, SymbolsInRange, WellFormed, SameTree}

-- forests up to a bar, whatever comes after it: a symbol, being 1 at least, is told from the bar
pub serial_bar : (f g : Forest) (x y : List ℕ) → SymbolsInRange f → SymbolsInRange g → serial_forest f ++ 0 ∷ x ≡ serial_forest g ++ 0 ∷ y → (f ≡ g) × (x ≡ y)
unfolding serial_forest SymbolsInRange
serial_bar empty empty x y p q e = (refl, tail-eq_of_cons-eq e)
serial_bar empty (node s k r) x y p q e = absurd (omega (arith, q.0, head-eq_of_cons-eq e))
serial_bar (node s k r) empty x y p q e = absurd (omega (arith, p.0, head-eq_of_cons-eq e))
serial_bar (node s k r) (node s' k' r') x y p q e =
    let t = sym (append_assoc (serial_forest k) (0 ∷ serial_forest r) (0 ∷ x)) ∙ tail-eq_of_cons-eq e ∙ append_assoc (serial_forest k') (0 ∷ serial_forest r') (0 ∷ y) in
    let a = serial_bar k k' (serial_forest r ++ 0 ∷ x) (serial_forest r' ++ 0 ∷ y) p.2 q.2 t in
    let b = serial_bar r r' x y p.3 q.3 a.1 in
    (λ i. node (head-eq_of_cons-eq e i) (a.0 i) (b.0 i), b.1)

-- forests
pub serial_forest_same : (f g : Forest) → SymbolsInRange f → SymbolsInRange g → serial_forest f ≡ serial_forest g → f ≡ g
serial_forest_same f g p q e = (serial_bar f g [] [] p q (ap (λ (l : List ℕ). l ++ (0 ∷ [])) e)).0

-- the same trees alone are the same
pub only_same : {t u : Tree} → only t ≡ only u → t ≡ u
only_same {t} {u} e = ap first e
  where
    first : Forest → Tree
    first empty = t
    first (node s k r) = record { symbol = s; children = k }

-- trees
pub serial_same : SameTree
unfolding serial
serial_same t u p q e = only_same (serial_forest_same (only t) (only u) p q e)

-- a list has at most one reading
pub reading_same : {entries : List ℕ} (w w' : WellFormed entries) → w.tree ≡ w'.tree
reading_same w w' = serial_same w.tree w'.tree w.symbols w'.symbols (w.written ∙ sym w'.written)
