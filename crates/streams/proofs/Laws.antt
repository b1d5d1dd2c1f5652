-- Logs, one after another. Assumes nothing.
use Prim.Native.Nat.{ℕ, zero, suc}
use mathlib.Core.Path.{◌≡◌, refl, sym, ap, ◌∙◌}
use mathlib.Core.List.{List, [], ◌∷◌, ◌++◌, map, flat_map, append-nil, append_assoc}
use native.Mathlib.Omega.{arith}
use lib.ListN.{take}
use Rattle.std.specs.List.{fold}
use Rattle.std.proofs.lemmas.List.Sums.{fold-append}
use Rattle.streams.specs.declared.Entry.{Entry}
use Rattle.streams.specs.declared.Entry.TheVariants.{ByteRead, ByteWritten, ReadReturned}
use Rattle.streams.specs.Log.{adds, read_in, written_in, failures_in, with_entry, digest_after, Logged}
use Rattle.streams.specs.Parts.{OfBytes, one_read, writes}

-- nothing came
pub logged_none : (digest : ℕ) → Logged digest digest []
unfolding digest_after
logged_none digest = refl

-- one entry came
pub logged_one : (before after : ℕ) (e : Entry) → after ≡ with_entry before e → Logged before after (e ∷ [])
unfolding digest_after
logged_one before after e given = given

-- more came after some
pub logged_both : (a : ℕ) {b c : ℕ} (xs ys : List Entry) → Logged a b xs → Logged b c ys → Logged a c (xs ++ ys)
unfolding digest_after
logged_both a xs ys e f = f ∙ ap (λ (d : ℕ). fold with_entry d ys) e ∙ sym (fold-append with_entry a xs ys)

-- a part of bytes is of bytes
pub bytes_front : (n : ℕ) (list : List ℕ) → OfBytes list → OfBytes (take n list)
bytes_front zero list f i = omega arith
bytes_front (suc n) [] f i = omega arith
bytes_front (suc n) (b ∷ bs) f zero = f 0
bytes_front (suc n) (b ∷ bs) f (suc i) = bytes_front n bs (λ j. f (suc j)) i

pub bytes_both : (xs ys : List ℕ) → OfBytes xs → OfBytes ys → OfBytes (xs ++ ys)
bytes_both [] ys f g i = g i
bytes_both (x ∷ xs) ys f g zero = f 0
bytes_both (x ∷ xs) ys f g (suc i) = bytes_both xs ys (λ j. f (suc j)) g i

-- ---- what was read, what was handed to writes, and what failed

each_both : {A : Type 0} (f : Entry → List A) (xs ys : List Entry) → flat_map f (xs ++ ys) ≡ flat_map f xs ++ flat_map f ys
unfolding flat_map
each_both f [] ys = refl
each_both f (x ∷ xs) ys = ap (λ (l : List _). f x ++ l) (each_both f xs ys) ∙ sym (append_assoc (f x) (flat_map f xs) (flat_map f ys))

-- of bytes none of which adds something, or each of which adds itself
each_none : {A : Type 0} (f : Entry → List A) (entry : ℕ → Entry) → ((b : ℕ) → f (entry b) ≡ []) → (bytes : List ℕ) → flat_map f (map entry bytes) ≡ []
unfolding flat_map
each_none f entry e [] = refl
each_none f entry e (b ∷ bytes) = rw (e b) (each_none f entry e bytes)

each_all : (f : Entry → List ℕ) (entry : ℕ → Entry) → ((b : ℕ) → f (entry b) ≡ b ∷ []) → (bytes : List ℕ) → flat_map f (map entry bytes) ≡ bytes
unfolding flat_map
each_all f entry e [] = refl
each_all f entry e (b ∷ bytes) = rw (e b) (ap (λ (l : List ℕ). b ∷ l) (each_all f entry e bytes))

pub record Passed (log : List Entry) (input output : List ℕ) (failures : List Entry) : Type 0 where
  pub read : read_in log ≡ input
  pub written : written_in log ≡ output
  pub failed : failures_in log ≡ failures

both : {A : Type 0} (f : Entry → List A) (xs ys : List Entry) {a b : List A} → flat_map f xs ≡ a → flat_map f ys ≡ b → flat_map f (xs ++ ys) ≡ a ++ b
both f xs ys e g = each_both f xs ys ∙ rw (e, g) refl

pub passed_both : {xs ys : List Entry} {a b s t : List ℕ} {k l : List Entry} → Passed xs a s k → Passed ys b t l → Passed (xs ++ ys) (a ++ b) (s ++ t) (k ++ l)
passed_both {xs} {ys} p q = record {
  read = both (λ e. (adds e).0) xs ys p.read q.read;
  written = both (λ e. (adds e).1) xs ys p.written q.written;
  failed = both (λ e. (adds e).2) xs ys p.failed q.failed;
}

pub passed_none : Passed [] [] [] []
unfolding flat_map
passed_none = record { read = refl; written = refl; failed = refl }

pub passed_one : (e : Entry) → Passed (e ∷ []) (adds e).0 (adds e).1 (adds e).2
unfolding flat_map
passed_one e = record { read = append-nil (adds e).0; written = append-nil (adds e).1; failed = append-nil (adds e).2 }

pub passed_writes : (bytes : List ℕ) → Passed (writes bytes) [] bytes []
passed_writes bytes = record {
  read = each_none (λ e. (adds e).0) ByteWritten (λ b. refl) bytes;
  written = each_all (λ e. (adds e).1) ByteWritten (λ b. refl) bytes;
  failed = each_none (λ e. (adds e).2) ByteWritten (λ b. refl) bytes;
}

pub passed_read : (bytes : List ℕ) → Passed (one_read bytes) bytes [] []
passed_read bytes =
    rw (append-nil bytes) at
    (passed_both
    (record {
      read = each_all (λ e. (adds e).0) ByteRead (λ b. refl) bytes;
      written = each_none (λ e. (adds e).1) ByteRead (λ b. refl) bytes;
      failed = each_none (λ e. (adds e).2) ByteRead (λ b. refl) bytes;
    })
    (passed_one ReadReturned))
