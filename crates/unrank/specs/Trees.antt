-- The row in which a value falls, its children, and the entries of its tree. Assumes nothing: these are definitions.
use Rattle.std.specs.Prelude.{ℕ, suc, ◌/◌, ◌%◌, ◌<◌, ◌≡◌, List, ◌∷◌, map, ◌++◌, length, get_or, drop}
use Rattle.model.specs.Table.{Row}
use Rattle.rows.specs.Words.{row_no, rows_in}
use Rattle.model.specs.Tree.{serial}
use Rattle.model.specs.Count.{sum, product, weight}
use Rattle.model.specs.Value.{find_by, tree_in}
use Rattle.counts.specs.Chain.{target}
use Rattle.counts.specs.States.{held}
use Rattle.rows.specs.declared.Rows.{Rows}
use Rattle.unrank.specs.declared.Entered.{Entered}
use Rattle.unrank.specs.declared.Spot.{Spot}

-- the row that is found by the sums, of the state's rows the one in which the value falls
pub record Enters (pool words counts : List ℕ) (q value : ℕ) (e : Entered) : Type 0 where
  pub row : ℕ
  pub inside : row < length words
  pub mine : target (rows_in pool words) row ≡ q
  pub found : find_by (map (weight (held counts) q) (rows_in pool words)) value ≡ record { which = row; rest = e.rest }
  pub is : e.word ≡ get_or words row 0
  pub weighs : e.weight ≡ product (map (held counts) (row_no (rows_in pool words) row).args)
  pub falls : e.rest < e.weight

abbrev pub EntersBy : Rows → (counts : List ℕ) → Spot → Entered → Type 0
EntersBy rows counts s = Enters rows.pool.now rows.words.now counts s.state s.value

-- the children that are left have states with places, whose counts have the product w, and h is below it
pub record Shared (counts states : List ℕ) (w h : ℕ) : Type 0 where
  pub placed : (k : ℕ) → k < length states → get_or states k 0 < length counts
  pub weighs : w ≡ product (map (held counts) states)
  pub falls : h < w

-- "for each child divide w by the child's count; the child's value is h divided by w, rounded down, and h becomes the remainder"
pub record TakesChild (counts states : List ℕ) (w h : ℕ) (child : Spot) (states' : List ℕ) (w' h' : ℕ) : Type 0 where
  pub first : states ≡ child.state ∷ states'
  pub divides : w' ≡ w / held counts child.state
  pub value : child.value ≡ h / w'
  pub remains : h' ≡ h % w'

-- the entries of the tree of a value in a state
unfoldable pub value_entries : (rows : List Row) (counts : List ℕ) (q value : ℕ) → List ℕ
value_entries rows counts q value = serial (tree_in rows (held counts) (suc q) q value)

-- they are written at the front, n entries
pub record Wrote (rows : List Row) (counts : List ℕ) (q value : ℕ) (old new : List ℕ) (n : ℕ) : Type 0 where
  pub many : n ≡ length (value_entries rows counts q value)
  pub holds : new ≡ value_entries rows counts q value ++ drop n old

abbrev pub spot_entries : (rows : List Row) (counts : List ℕ) → Spot → List ℕ
spot_entries rows counts s = value_entries rows counts s.state s.value

abbrev pub WroteSpot : (rows : List Row) (counts : List ℕ) → Spot → (old new : List ℕ) (n : ℕ) → Type 0
WroteSpot rows counts s = Wrote rows counts s.state s.value

-- the entries of the list are states that have a place, and the number is below what they count together
pub record ListReady (accepting counts : List ℕ) (number : ℕ) : Type 0 where
  pub states : (i : ℕ) → i < length accepting → get_or accepting i 0 < length counts
  pub less : number < sum (map (held counts) accepting)

-- the accepting state, found by the sums
abbrev pub spot_of : (accepting counts : List ℕ) (number : ℕ) → Spot
spot_of accepting counts number =
    let found = find_by (map (held counts) accepting) number in
    record { state = get_or accepting found.which 0; value = found.rest }
