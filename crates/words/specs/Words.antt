-- Bytes as one number, the first byte the lowest. Assumes nothing: these are definitions.
use Rattle.std.specs.Prelude.{ℕ, zero, suc, ◌+◌, ◌*◌, ◌/◌, ◌%◌, ◌^◌, ◌<◌, ◌≤◌, ◌≡◌, Bool, true, ◌&&◌, ◌||◌, List, [], ◌∷◌, length, get_or, take, drop, eqb, if◌then◌else◌}
use Rattle.model.specs.Names.{between, is_name_byte, alike}

-- the byte in a place of a number, place 0 being the lowest
abbrev pub byte_at : (x place : ℕ) → ℕ
byte_at x place = x / 256 ^ place % 256

-- in each of the `places` lowest places the bytes of two numbers are alike as (a) has it
unfoldable pub places_alike : (places x y : ℕ) → Bool
places_alike zero x y = true
places_alike (suc k) x y = places_alike k x y && alike (byte_at x k) (byte_at y k)

-- "Two such numbers, of any bytes at all, are proved to be found equal exactly if their bytes in each place are the same but for the case of an
-- ASCII letter." (request (d))
unfoldable pub words_alike : (x y : ℕ) → Bool
words_alike x y = places_alike 8 x y

-- the same, said of each place (the law `words_exactly`)
pub record EachPlaceAlike (x y : ℕ) : Type 0 where
  pub at : (place : ℕ) → place < 8 → alike (byte_at x place) (byte_at y place) ≡ true

-- bytes as one number
unfoldable pub packed : List ℕ → ℕ
packed [] = 0
packed (b ∷ bs) = packed bs * 256 + b

-- w is n bytes of the list as one number, from `at`; where fewer are left, those
pub record Word (n at : ℕ) (bytes : List ℕ) (w : ℕ) : Type 0 where
  pub is : w ≡ packed (take n (drop at bytes))
  pub below : w < 256 ^ n

-- from `at` on, n entries of a list are put as `entry` gives them, and the others stay
pub record Placed (n : ℕ) (old new : List ℕ) (at : ℕ) (entry : ℕ → ℕ) : Type 0 where
  pub long : length new ≡ length old
  pub inside : (k : ℕ) → k < n → get_or new (at + k) 0 ≡ entry k
  pub before : (i : ℕ) → i < at → get_or new i 0 ≡ get_or old i 0
  pub behind : (i : ℕ) → at + n ≤ i → get_or new i 0 ≡ get_or old i 0

-- the n low bytes of w are put at a place, the lowest first
abbrev pub WordPut : (n : ℕ) (old new : List ℕ) (at w : ℕ) → Type 0
WordPut n old new at w = Placed n old new at (byte_at w)

-- the number whose m low bytes are f of those of x, place by place (f gives bytes)
unfoldable pub lanes : (f : ℕ → ℕ) (m x : ℕ) → ℕ
lanes f zero x = 0
lanes f (suc m) x = lanes f m (x / 256) * 256 + f (x % 256)

-- 128 where the byte is from `first` to `last`, else 0
unfoldable pub marked : (first last b : ℕ) → ℕ
marked first last b = if between first last b then 128 else 0

-- a byte from `-` to `z`: every name byte is one, and byte 10, `(`, `)` and `,` are none
abbrev pub is_inner : ℕ → Bool
is_inner b = between 45 122 b

-- with how many bytes from `-` to `z` the m low bytes of x begin, from the lowest
unfoldable pub inner_ahead : (m x : ℕ) → ℕ
inner_ahead zero x = 0
inner_ahead (suc m) x = if is_inner (x % 256) then suc (inner_ahead m (x / 256)) else 0

-- a byte that may stand in a names list: a name byte, or byte 10
abbrev pub is_list_byte : ℕ → Bool
is_list_byte b = is_name_byte b || eqb b 10

-- 128 where the byte is none of these, else 0
unfoldable pub foreign : ℕ → ℕ
foreign b = if is_list_byte b then 0 else 128
