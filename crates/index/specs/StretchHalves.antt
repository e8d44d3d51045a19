-- Laws of the least of a stretch, and of what the index holds.
--   least_from_split least_from_nobody     a stretch cut in two; a stretch of nobodies
--   Some least_some                      the least of a stretch that is not empty
--   least_one least_halves               a single column; the lesser of two halves
--   held_few held_halves length_held     what is held for less than two columns, for a stretch and its halves, and how many there are
--   least_same held_same                 they read the columns of the stretch only
use Rattle.std.specs.Prelude.{◌≡◌, refl, List, [], ◌∷◌, ◌++◌, ℕ, zero, suc, ◌+◌, ◌-◌, ◌/◌, ◌≤◌, ◌<◌, length}
use Rattle.std.proofs.Common.{sym, ap, ◌∙◌, arith, lt-ltb, le-ltb, length-append}
use Rattle.std.proofs.lemmas.List.{map-append, length-map}
use Rattle.definitions.specs.Blocks.{splits}
use Rattle.definitions.specs.Best.{Best, nobody, by, lesser, placed, least_from}
use Rattle.definitions.specs.Index.{column_of, least_in, held_at}
use Rattle.definitions.proofs.Laws.LeastLaws.{Found, found_is, least_from_same}
use Rattle.logic.specs.Tests.{Order, less, more, order}
use Rattle.heap_laws.proofs.Lesser.{lesser_assoc}
use Rattle.index.specs.HeldRows.{held_from}

-- ---- the least of a stretch

pub least_from_split : (w : ℕ → Best) (s n m : ℕ) → least_from w s (n + m) ≡ lesser (least_from w s n) (least_from w (s + n) m)
unfolding least_from lesser
least_from_split w s zero m = let e : s + 0 ≡ s = omega arith in let f : 0 + m ≡ m = omega arith in rw (e, f)
least_from_split w s (suc n) m =
    let e : s + suc n ≡ suc s + n = omega arith in
    let f : suc n + m ≡ suc (n + m) = omega arith in
    rw (e, f, least_from_split w (suc s) n m) (sym (lesser_assoc (placed s (w s)) (least_from w (suc s) n) (least_from w (suc s + n) m)))

pub least_from_nobody : (w : ℕ → Best) (s n : ℕ) → ((c : ℕ) → s ≤ c → c < s + n → w c ≡ nobody) → least_from w s n ≡ nobody
unfolding least_from placed lesser
least_from_nobody w s zero h = refl
least_from_nobody w s (suc n) h = rw (h s (omega arith) (omega arith), least_from_nobody w (suc s) n (λ c a b. h c (omega arith) (omega arith)))

-- a column of the stretch, with its length
pub record Some (row : ℕ → ℕ) (s k : ℕ) (x : Best) : Type 0 where
  pub column : ℕ
  pub low : s ≤ column
  pub high : column < s + k
  pub here : x ≡ by column (row column)

some_in : (row : ℕ → ℕ) (s k : ℕ) → 1 ≤ k → (x : Best) → least_in row s k ≡ x → Found (λ c. by c (row c)) s k x → Some row s k x
some_in row s k l nobody e h = absurd (differ (h s (omega arith) (omega arith)))
  where
    is_by : Best → ℕ
    is_by nobody = 0
    is_by (by c n) = 1

    differ : by s (row s) ≡ nobody → ⊥
    differ q = let z : ◌≡◌ {A = ℕ} 1 0 = ap is_by q in omega arith
some_in row s k l (by c n) e h = record { column = c; low = h.low; high = h.high; here = ap (λ (z : ℕ). by c z) (sym (sum_of h.here)) }
  where
    length_of : Best → ℕ
    length_of nobody = 0
    length_of (by c n) = n

    sum_of : by c (row c) ≡ by h.holder n → row c ≡ n
    sum_of q = ap length_of q

pub least_some : (row : ℕ → ℕ) (s k : ℕ) → 1 ≤ k → Some row s k (least_in row s k)
unfolding least_in
least_some row s k l = some_in row s k l (least_in row s k) refl (found_is (λ c. by c (row c)) s k)

pub least_one : (row : ℕ → ℕ) (s : ℕ) → least_in row s 1 ≡ by s (row s)
unfolding least_in least_from placed lesser
least_one row s = refl

-- "The least of a stretch is the lesser of its two halves"
pub least_halves : (row : ℕ → ℕ) (s k : ℕ) → least_in row s k ≡ lesser (least_in row s (k / 2)) (least_in row (s + k / 2) (k - k / 2))
unfolding least_in
least_halves row s k =
    let e : k ≡ k / 2 + (k - k / 2) = omega arith in
    ap (λ (n : ℕ). least_from (λ c. by c (row c)) s n) e ∙ least_from_split (λ c. by c (row c)) s (k / 2) (k - k / 2)

pub least_same : (row row' : ℕ → ℕ) (s k : ℕ) → ((c : ℕ) → s ≤ c → c < s + k → row c ≡ row' c) → least_in row s k ≡ least_in row' s k
unfolding least_in
least_same row row' s k h = least_from_same (λ c. by c (row c)) (λ c. by c (row' c)) s k (λ c a b. ap (λ (n : ℕ). by c n) (h c a b))

-- ---- the halving

splits_few : (d s k : ℕ) → k < 2 → splits d s k ≡ []
unfolding splits
splits_few zero s k l = refl
splits_few (suc d) s k l = rw (lt-ltb k 2 l, splits)

splits_cut : (d s k : ℕ) → 2 ≤ k → splits (suc d) s k ≡ record { first = s; middle = s + k / 2; end = s + k } ∷ (splits d s (k / 2) ++ splits d (s + k / 2) (k - k / 2))
unfolding splits
splits_cut d s k l = rw (le-ltb k 2 l, splits)

-- any depth of at least k gives the same
splits_enough : (d e s k : ℕ) → k ≤ d → k ≤ e → splits d s k ≡ splits e s k
splits_enough zero e s k l r = splits_few zero s k (omega arith) ∙ sym (splits_few e s k (omega arith))
splits_enough (suc d) zero s k l r = splits_few (suc d) s k (omega arith) ∙ sym (splits_few zero s k (omega arith))
splits_enough (suc d) (suc e) s k l r = go (order k 2) (λ s' k' a b. splits_enough d e s' k' a b)
  where
    go : Order k 2 → ((s' k' : ℕ) → k' ≤ d → k' ≤ e → splits d s' k' ≡ splits e s' k') → splits (suc d) s k ≡ splits (suc e) s k
    go (less t h) ih = splits_few (suc d) s k h ∙ sym (splits_few (suc e) s k h)
    go (more t h) ih =
        splits_cut d s k h
        ∙ rw (ih s (k / 2) (omega arith) (omega arith), ih (s + k / 2) (k - k / 2) (omega arith) (omega arith)) (sym (splits_cut e s k h))

length_splits : (d s k : ℕ) → k ≤ d → length (splits d s k) ≡ k - 1
length_splits zero s k l = rw (splits_few zero s k (omega arith)) (omega arith)
length_splits (suc d) s k l = go (order k 2) (λ s' k' a. length_splits d s' k' a)
  where
    go : Order k 2 → ((s' k' : ℕ) → k' ≤ d → length (splits d s' k') ≡ k' - 1) → length (splits (suc d) s k) ≡ k - 1
    go (less t h) ih = rw (splits_few (suc d) s k h) (omega arith)
    go (more t h) ih =
        let e = length-append (splits d s (k / 2)) (splits d (s + k / 2) (k - k / 2)) in
        rw (splits_cut d s k h) (omega (arith, e, ih s (k / 2) (omega arith), ih (s + k / 2) (k - k / 2) (omega arith)))

-- ---- what is held

pub held_few : (row : ℕ → ℕ) (s k : ℕ) → k < 2 → held_from row s k ≡ []
unfolding held_from
held_few row s k l = rw (splits_few k s k l)

pub held_halves : (row : ℕ → ℕ) (s k : ℕ) → 2 ≤ k
    → held_from row s k ≡ column_of (least_in row s k) ∷ (held_from row s (k / 2) ++ held_from row (s + k / 2) (k - k / 2))
unfolding held_from held_at
held_halves row s zero l = absurd (omega arith)
held_halves row s (suc d) l =
    let k = suc d in
    let e : s + k - s ≡ k = omega arith in
    rw (splits_cut d s k l, e, splits_enough d (k / 2) s (k / 2) (omega arith) (omega arith), splits_enough d (k - k / 2) (s + k / 2) (k - k / 2) (omega arith) (omega arith))
    (ap (λ (x : List ℕ). column_of (least_in row s k) ∷ x) (map-append (held_at row) (splits (k / 2) s (k / 2)) (splits (k - k / 2) (s + k / 2) (k - k / 2))))

pub length_held : (row : ℕ → ℕ) (s k : ℕ) → length (held_from row s k) ≡ k - 1
unfolding held_from
length_held row s k = length-map (splits k s k) (held_at row) ∙ length_splits k s k (omega arith)

same_by : (d : ℕ) (row row' : ℕ → ℕ) (s k : ℕ) → k ≤ d → ((c : ℕ) → s ≤ c → c < s + k → row c ≡ row' c) → held_from row s k ≡ held_from row' s k
same_by zero row row' s k l h = held_few row s k (omega arith) ∙ sym (held_few row' s k (omega arith))
same_by (suc d) row row' s k l h = go (order k 2) (λ s' k' a g. same_by d row row' s' k' a g)
  where
    go : Order k 2 → ((s' k' : ℕ) → k' ≤ d → ((c : ℕ) → s' ≤ c → c < s' + k' → row c ≡ row' c) → held_from row s' k' ≡ held_from row' s' k')
        → held_from row s k ≡ held_from row' s k
    go (less t q) ih = held_few row s k q ∙ sym (held_few row' s k q)
    go (more t q) ih =
        held_halves row s k q
        ∙ rw (least_same row row' s k h, ih s (k / 2) (omega arith) (λ c a b. h c (omega arith) (omega arith)), ih (s + k / 2) (k - k / 2) (omega arith) (λ c a b. h c (omega arith) (omega arith)))
        (sym (held_halves row' s k q))

pub held_same : (row row' : ℕ → ℕ) (s k : ℕ) → ((c : ℕ) → s ≤ c → c < s + k → row c ≡ row' c) → held_from row s k ≡ held_from row' s k
held_same row row' s k h = same_by k row row' s k (omega arith) h
