-- Exactly n things: things listed by their numbers, images of things; and 'how many' is one number.
use Prim.Native.Nat.{ℕ, zero, suc, ◌≤◌, ◌<◌}
use mathlib.Core.Path.{◌≡◌, refl, ap, sym, ◌∙◌, subst}
use mathlib.Core.List.{List, [], ◌∷◌, map, Memᴰ}
use native.Mathlib.Omega.{arith}
use native.Mathlib.Decide.{dec_le}
use native.Mathlib.Nat.{not-suc-le-zero, le_of_suc-le-suc}
use lib.ListN.{length, get_or, length-map}
use Rattle.model.specs.Order.{Exactly}
use Rattle.model.proofs.Counting.{get_d_map}
use Rattle.model.proofs.Good.{pigeon}

module _ {A : Type 0} where
  -- un 0, un 1 .., k of them
  unfoldable up_to : (ℕ → A) → ℕ → List A
  up_to un zero = []
  up_to un (suc k) = un 0 ∷ up_to (λ i. un (suc i)) k

  up_to_length : (un : ℕ → A) (k : ℕ) → length (up_to un k) ≡ k
  unfolding up_to
  up_to_length un zero = refl
  up_to_length un (suc k) = ap suc (up_to_length (λ i. un (suc i)) k)

  up_to_at : (un : ℕ → A) (k i : ℕ) (d : A) → i < k → get_or (up_to un k) i d ≡ un i
  unfolding up_to
  up_to_at un zero i d l = absurd (not-suc-le-zero l)
  up_to_at un (suc k) zero d l = refl
  up_to_at un (suc k) (suc i) d l = up_to_at (λ i. un (suc i)) k i d (le_of_suc-le-suc l)

  up_to_has : (un : ℕ → A) (k i : ℕ) → i < k → Memᴰ (un i) (up_to un k)
  unfolding up_to
  up_to_has un zero i l = absurd (not-suc-le-zero l)
  up_to_has un (suc k) zero l = Memᴰ.head refl
  up_to_has un (suc k) (suc i) l = Memᴰ.tail (up_to_has (λ i. un (suc i)) k i (le_of_suc-le-suc l))

  -- things numbered below k, each number having its thing: there are exactly k, listed by their numbers
  pub exactly : (un : ℕ → A) (number : A → ℕ) (P : A → Type 0) (k : ℕ) → ((i : ℕ) → i < k → number (un i) ≡ i) → ((i : ℕ) → i < k → P (un i))
      → ((a : A) → P a → (number a < k) × (un (number a) ≡ a)) → Exactly P k
  exactly un number P k right has back =
      record {
        list = up_to un k;
        many = up_to_length un k;
        different = λ i j d li lj e.
            let f : un i ≡ un j = sym (up_to_at un k i d li) ∙ e ∙ up_to_at un k j d lj in
            sym (right i li) ∙ ap number f ∙ right j lj;
        each = λ i d l. subst P (sym (up_to_at un k i d l)) (has i l);
        every = λ a p. let b = back a p in subst (λ (x : A). Memᴰ x (up_to un k)) b.1 (up_to_has un k (number a) b.0);
      }

map_has : {A B : Type 0} (f : A → B) (a : A) (xs : List A) → Memᴰ a xs → Memᴰ (f a) (map f xs)
map_has f a xs (Memᴰ.head e) = Memᴰ.head (ap f e)
map_has f a xs (Memᴰ.tail {xs = ys} m) = Memᴰ.tail (map_has f a ys m)

-- as many images as things, where different things have different images
pub exactly_map : {A B : Type 0} (f : A → B) (a : A) (P : A → Type 0) (Q : B → Type 0) (n : ℕ)
    → ((x y : A) → P x → P y → f x ≡ f y → x ≡ y) → ((x : A) → P x → Q (f x)) → ((b : B) → Q b → (x : A) × P x × (f x ≡ b)) → Exactly P n → Exactly Q n
exactly_map {A} {B} f a P Q n once there back e =
    record {
      list = map f e.list;
      many = length-map e.list f ∙ e.many;
      different = λ i j d li lj h. e.different i j a li lj (once (at i) (at j) (e.each i a li) (e.each j a lj) (sym (image i d li) ∙ h ∙ image j d lj));
      each = λ i d l. subst Q (sym (image i d l)) (there (at i) (e.each i a l));
      every = λ b q. let p = back b q in subst (λ (x : B). Memᴰ x (map f e.list)) p.2 (map_has f p.0 e.list (e.every p.0 p.1));
    }
  where
    at : ℕ → A
    at i = get_or e.list i a

    image : (i : ℕ) (d : B) → i < n → get_or (map f e.list) i d ≡ f (get_or e.list i a)
    image i d l = get_d_map f e.list i a d (rw e.many l)

-- ---- one number

-- where a member stands
pub member_at : {A : Type 0} {a : A} {xs : List A} (d : A) → Memᴰ a xs → (i : ℕ) × (i < length xs) × (get_or xs i d ≡ a)
member_at d (Memᴰ.head e) = (0, omega arith, sym e)
member_at d (Memᴰ.tail m) = let p = member_at d m in (suc p.0, omega arith, p.2)

-- the things of the one list stand, at different places, in the other
exactly_few : {A : Type 0} (P : A → Type 0) (m n : ℕ) → Exactly P m → Exactly P n → m ≤ n
exactly_few {A} P m n e f = go e.list refl
  where
    go : (xs : List A) → e.list ≡ xs → m ≤ n
    go [] z = omega (arith, e.many, ap length z)
    go (d ∷ xs) z = pigeon m n at low once
      where
        there : (i : ℕ) → i < m → (j : ℕ) × (j < length f.list) × (get_or f.list j d ≡ get_or e.list i d)
        there i l = member_at d (f.every (get_or e.list i d) (e.each i d l))

        -- any number where there is no thing
        side : (i : ℕ) → Dec (i < m) → ℕ
        side i (yes l) = (there i l).0
        side i (no l) = 0

        at : ℕ → ℕ
        at i = side i (dec_le (suc i) m)

        side_low : (i : ℕ) (b : Dec (i < m)) → i < m → side i b < n
        side_low i (yes l) h = omega (arith, (there i l).1, f.many)
        side_low i (no l) h = absurd (l h)

        side_is : (i : ℕ) (b : Dec (i < m)) → i < m → get_or f.list (side i b) d ≡ get_or e.list i d
        side_is i (yes l) h = (there i l).2
        side_is i (no l) h = absurd (l h)

        low : (i : ℕ) → i < m → at i < n
        low i l = side_low i (dec_le (suc i) m) l

        once : (i j : ℕ) → i < m → j < m → at i ≡ at j → i ≡ j
        once i j li lj h =
            e.different i j d li lj
            (sym (side_is i (dec_le (suc i) m) li) ∙ ap (λ (k : ℕ). get_or f.list k d) h ∙ side_is j (dec_le (suc j) m) lj)

-- 'how many' is one number
pub exactly_once : {A : Type 0} (P : A → Type 0) (m n : ℕ) → Exactly P m → Exactly P n → m ≡ n
exactly_once P m n e f = omega (arith, exactly_few P m n e f, exactly_few P n m f e)
