-- The lines of a names list as the code holds them, and the index of names. Assumes nothing: these are definitions.
use Rattle.std.specs.Prelude.{ℕ, zero, suc, ◌+◌, ◌*◌, ◌/◌, ◌%◌, ◌^◌, ◌<◌, ◌≤◌, ◌≡◌, Bool, true, false, ◌&&◌, List, [], ◌∷◌, map, length, get_or, take, drop, if◌then◌else◌, Result, Ok, Err}
use Rattle.std.specs.Int.Bits.{bit_or}
use Rattle.model.specs.Answers.{Outcome, refused_by}
use Rattle.model.specs.Names.{is_name, same_name, line_at, how_many_names, names_then}
use Rattle.chains.specs.First.{first_with}
use Rattle.words.specs.Words.{is_inner, is_list_byte, packed}
use Rattle.chains.specs.Chains.{Chains, Clear}
use Rattle.chains.specs.Digest.{mixed_by}
use Rattle.std.specs.Prelude.{Option}
use Rattle.std.specs.Prelude.{Some, None}
use Rattle.names.specs.declared.Stretch.{Stretch}
use Rattle.names.specs.declared.NamesRoom.{NamesRoom}
use Rattle.model.specs.declared.Refusal.{Refusal}

-- where the name of the line that begins at `at` ends; nothing where the line is no name, or byte 10 does not follow
unfoldable pub name_end : List ℕ → ℕ → Option ℕ
name_end names at =
    if is_name (line_at (drop at names) 0).bytes && (line_at (drop at names) 0).ended then Some (at + length (line_at (drop at names) 0).bytes) else None

-- the first of the first n lines whose name is equal to this
abbrev pub name_found : List ℕ → ℕ → List ℕ → Option ℕ
name_found names n name = first_with (λ k. same_name (line_at names k).bytes name) n

-- a byte with the bit set by which a small letter differs from the capital one
abbrev pub caseless : ℕ → ℕ
caseless b = bit_or b 32

-- The hash of a name, as the code takes it: no answer depends on it.
-- The first n bytes of a word of eight, with that bit set in each
abbrev pub front_of : (n w : ℕ) → ℕ
front_of n w = bit_or w 0x2020_2020_2020_2020 % 256 ^ n

-- one word more in a hash
unfoldable pub mixed : (h w : ℕ) → ℕ
mixed h w = mixed_by 2146121005 1540483477 h w

-- k words of eight bytes, and what is left of the bytes as a last one
unfoldable pub mix_words : (k h : ℕ) → List ℕ → ℕ
mix_words zero h bytes = mixed h (packed bytes)
mix_words (suc k) h bytes = mix_words k (mixed h (packed (take 8 bytes))) (drop 8 bytes)

-- one of 512 buckets (8388608 is 2 ^ 32 / 512)
unfoldable pub bucket_at : ℕ → ℕ
bucket_at h = h % 4294967296 * 2654435769 % 4294967296 / 8388608

-- the bucket of a name, by a hash that begins with a seed: equal names have the same (the law `same_bucket`)
unfoldable pub hash_of : (seed : ℕ) → List ℕ → ℕ
hash_of seed name = bucket_at (mix_words (length name / 8) seed (map caseless name))

unfoldable pub all_inner : List ℕ → Bool
all_inner [] = true
all_inner (b ∷ bs) = is_inner b && all_inner bs

-- the longest part at the front of bytes from `-` to `z`: where a name stands there and byte 10, `(`, `)`, `,` or nothing follows, that name
unfoldable pub stretch : List ℕ → List ℕ
stretch [] = []
stretch (b ∷ bs) = if is_inner b then b ∷ stretch bs else []

-- the stretch from `at` on: where it ends, and its bucket
pub record StretchFrom (seed : ℕ) (bytes : List ℕ) (at : ℕ) (r : Stretch) : Type 0 where
  pub ends : r.end ≡ at + length (stretch (drop at bytes))
  pub within : r.end ≤ length bytes
  pub hashed : r.bucket ≡ hash_of seed (stretch (drop at bytes))
  pub below : r.bucket < 512

-- from a place on there are only name bytes and byte 10
pub record OnlyListBytes (from : ℕ) (names : List ℕ) : Type 0 where
  pub at : (i : ℕ) → from ≤ i → i < length names → is_list_byte (get_or names i 0) ≡ true

-- the bucket of the name on line k
abbrev pub bucket_of : (seed : ℕ) → List ℕ → ℕ → ℕ
bucket_of seed names k = hash_of seed (line_at names k).bytes

-- a line of the list: its bytes are a name, they stand from a place on, and the next line begins one byte after them
pub record Stands (names : List ℕ) (from next : ℕ) (bytes : List ℕ) : Type 0 where
  pub ends : next ≡ from + length bytes + 1
  pub within : next ≤ length names
  pub part : take (length bytes) (drop from names) ≡ bytes
  pub named : is_name bytes ≡ true

-- each of the first n lines stands at its start
pub record Lined (names starts : List ℕ) (n : ℕ) : Type 0 where
  pub few : n ≤ 255
  pub long : length starts ≡ 256
  pub stands : (k : ℕ) → k < n → Stands names (get_or starts k 0) (get_or starts (k + 1) 0) (line_at names k).bytes

-- the first n lines, no two of which have equal names, are indexed
pub record NamesIndexed (seed : ℕ) (names starts heads next : List ℕ) (n : ℕ) : Type 0 where
  pub lined : Lined names starts n
  pub chains : Chains (bucket_of seed names) 512 256 n heads next
  pub apart : (j k : ℕ) → j < k → k < n → same_name (line_at names j).bytes (line_at names k).bytes ≡ false

-- a name is looked for by the index of some seed, in the bucket that this seed gives it
pub record Sought (names starts heads next : List ℕ) (n : ℕ) (name : List ℕ) (b : ℕ) : Type 0 where
  pub seed : ℕ
  pub indexed : NamesIndexed seed names starts heads next n
  pub hashed : b ≡ hash_of seed name
  pub below : b < 512

-- the link is within the links, and each link that it leads to is lower: so a walk along them ends
pub record Falling (links : List ℕ) (link : ℕ) : Type 0 where
  pub inside : link ≤ 256
  pub lower : (k : ℕ) → k < link → get_or links k 0 ≤ k

-- the first line begins at the front
pub record Started (starts : List ℕ) : Type 0 where
  pub long : length starts ≡ 256
  pub first : get_or starts 0 0 ≡ 0

-- room with nothing in it
abbrev pub IsEmpty : NamesRoom → Type 0
IsEmpty room = Started room.starts × Clear 512 256 room.heads room.next

-- the refusal, or what follows where the list keeps to the rules
abbrev pub names_check_then : {A : Type 0} → Result A Refusal → Outcome → Outcome
names_check_then (Ok n) otherwise = otherwise
names_check_then (Err r) otherwise = refused_by r

-- the answer decides 17; where the list keeps to the rules, all its lines are known
pub record NamesAnswer (seed : ℕ) (names starts heads next : List ℕ) (r : Result ℕ Refusal) : Type 0 where
  pub decided : (o : Outcome) → names_check_then r o ≡ names_then names o
  pub count : (n : ℕ) → r ≡ Ok n → n ≡ how_many_names names
  pub known : (n : ℕ) → r ≡ Ok n → NamesIndexed seed names starts heads next n
