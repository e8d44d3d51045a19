-- Laws of a question.
--   in_stretch_lem in_stretch_own held_in_lem                      the held column lies in its stretch
--   ask_among                                              of any numbers held, a question answers a column that was asked for
--   ask_inside ask_left ask_right ask_both                 a question in the cases that the code tests
--   ask_least                                              as built, the index gives the least of the columns asked for
--   ask_same ask_moved                                     it reads the columns of the stretch and its places only
--   find_whole find_first find_second find_both            what the code has found, case by case
--   find_inside                                            where it lies
--   start_both until_end until_first until_both            .. up to an end, alone and with a best before it
--   from_end from_second from_both                         .. from a first on, with a best behind it
use Rattle.std.specs.Prelude.{◌≡◌, cond, ◌&&◌, List, ◌++◌, ◌⊎◌, leb, ltb}
use Rattle.std.proofs.Math.Path.{refl, sym, ap}
use Rattle.std.proofs.Common.{◌∙◌, subst, inl, inr}
use Prim.Native.Nat.{ℕ, zero, suc, ◌+◌, ◌-◌, ◌/◌, ◌≤◌, ◌<◌}
use native.Mathlib.Omega.{arith}
use borrow.Author.Tests.{lt-ltb, le-ltb, le-leb, lt-leb}
use Rattle.std.proofs.Math.ListN.{get_or, length}
use Rattle.definitions.specs.Best.{Best, nobody, by, lesser, least_from}
use Rattle.definitions.specs.Index.{column_of, least_in, in_stretch, held_in, ask}
use Rattle.definitions.proofs.Laws.LeastLaws.{least_from_same}
use Rattle.logic.specs.Tests.{Order, less, more, order}
use Rattle.heap_laws.proofs.Lesser.{lesser_nobody, lesser_assoc}
use Rattle.index.specs.HeldRows.{held_from, HeldAt}
use Rattle.index.specs.PutPlaces.{holds_first, holds_rest, holds_left, holds_right}
use Rattle.index.specs.StretchHalves.{least_from_split, least_from_nobody, least_some, least_one, held_halves, length_held}

-- ---- the held column

pub in_stretch_lem : (s k c : ℕ) → 1 ≤ k → (s ≤ in_stretch s k c) × (in_stretch s k c < s + k)
unfolding in_stretch
in_stretch_lem s k c l = go (order c s) (order c (s + k))
  where
    go : Order c s → Order c (s + k) → (s ≤ in_stretch s k c) × (in_stretch s k c < s + k)
    go (less _ h) _ = rw (lt-leb s c h) (omega arith, omega arith)
    go (more _ h) (less t j) = rw (le-leb s c h, t) (h, j)
    go (more _ h) (more t j) = rw (le-leb s c h, t) (omega arith, omega arith)

pub in_stretch_own : (s k c : ℕ) → s ≤ c → c < s + k → in_stretch s k c ≡ c
unfolding in_stretch
in_stretch_own s k c h j = rw (le-leb s c h, lt-ltb c (s + k) j)

pub held_in_lem : (held : List ℕ) (p s k : ℕ) → 1 ≤ k → (s ≤ held_in held p s k) × (held_in held p s k < s + k)
unfolding held_in
held_in_lem held p s k l = go (order k 2)
  where
    go : Order k 2 → (s ≤ held_in held p s k) × (held_in held p s k < s + k)
    go (less t h) = rw t (omega arith, omega arith)
    go (more t h) = rw t (in_stretch_lem s k (get_or held p 0) l)

-- ---- the query, case by case

module _ (row : ℕ → ℕ) (held : List ℕ) (a b : ℕ) where
  -- none of the stretch is asked for
  ask_before : (d p s k : ℕ) → b ≤ s → ask d row held a b p s k ≡ nobody
  unfolding ask
  ask_before zero p s k h = refl
  ask_before (suc d) p s k h = rw (le-leb b s h, ask)

  ask_after : (d p s k : ℕ) → s + k ≤ a → ask d row held a b p s k ≡ nobody
  unfolding ask
  ask_after zero p s k h = refl
  ask_after (suc d) p s k h = go (order s b)
    where
      go : Order s b → ask (suc d) row held a b p s k ≡ nobody
      go (less _ l) = rw (lt-leb b s l, le-leb (s + k) a h, ask)
      go (more _ l) = ask_before (suc d) p s k l

  ask_whole : (d p s k : ℕ) → s < b → a < s + k → a ≤ s → s + k ≤ b → ask (suc d) row held a b p s k ≡ by (held_in held p s k) (row (held_in held p s k))
  unfolding ask
  ask_whole d p s k h j l r = rw (lt-leb b s h, lt-leb (s + k) a j, le-leb a s l, le-leb (s + k) b r, ask)

  ask_cut : (d p s k : ℕ) → s < b → a < s + k → (s < a) ⊎ (b < s + k)
      → ask (suc d) row held a b p s k ≡ lesser (ask d row held a b (p + 1) s (k / 2)) (ask d row held a b (p + k / 2) (s + k / 2) (k - k / 2))
  unfolding ask
  ask_cut d p s k h j (inl l) = rw (lt-leb b s h, lt-leb (s + k) a j, lt-leb a s l, ask)
  ask_cut d p s k h j (inr r) = go (order s a)
    where
      go : Order s a → ask (suc d) row held a b p s k ≡ lesser (ask d row held a b (p + 1) s (k / 2)) (ask d row held a b (p + k / 2) (s + k / 2) (k - k / 2))
      go (less _ l) = rw (lt-leb b s h, lt-leb (s + k) a j, lt-leb a s l, ask)
      go (more _ l) = rw (lt-leb b s h, lt-leb (s + k) a j, le-leb a s l, lt-leb (s + k) b r, ask)

  -- the four ways in which a stretch and what is asked for can meet
  data Meets (s k : ℕ) : Type 0 where
    before : b ≤ s → Meets s k
    after : s + k ≤ a → Meets s k
    whole : s < b → a < s + k → a ≤ s → s + k ≤ b → Meets s k
    cut : s < b → a < s + k → (s < a) ⊎ (b < s + k) → Meets s k

  meets : (s k : ℕ) → Meets s k
  meets s k = go (order s b) (order a (s + k)) (order s a) (order b (s + k))
    where
      go : Order s b → Order a (s + k) → Order s a → Order b (s + k) → Meets s k
      go (more _ h) _ _ _ = before h
      go (less _ h) (more _ j) _ _ = after j
      go (less _ h) (less _ j) (less _ l) _ = cut h j (inl l)
      go (less _ h) (less _ j) (more _ l) (less _ r) = cut h j (inr r)
      go (less _ h) (less _ j) (more _ l) (more _ r) = whole h j l r

  -- a stretch that is cut has two columns
  two : (s k : ℕ) → s < b → a < s + k → (s < a) ⊎ (b < s + k) → 2 ≤ k
  two s k h j (inl l) = omega arith
  two s k h j (inr r) = omega arith

  -- nobody, or a column of the stretch that is among those asked for
  abbrev Answers : ℕ → ℕ → Best → Type 0
  Answers s k nobody = Unit {0}
  Answers s k (by c n) = (s ≤ c) × (c < s + k) × (a ≤ c) × (c < b)

  lesser_answers : (s k : ℕ) (x y : Best) → Answers s k x → Answers s k y → Answers s k (lesser x y)
  unfolding lesser
  lesser_answers s k nobody y h j = j
  lesser_answers s k (by c n) nobody h j = h
  lesser_answers s k (by c n) (by c' n') h j = go (order n' n)
    where
      go : Order n' n → Answers s k (lesser (by c n) (by c' n'))
      go (less t _) = rw t j
      go (more t _) = rw t h

  wider_answers : (s k s' k' : ℕ) (x : Best) → s ≤ s' → s' + k' ≤ s + k → Answers s' k' x → Answers s k x
  wider_answers s k s' k' nobody u v h = tt
  wider_answers s k s' k' (by c n) u v h = (omega (arith, h.0), omega (arith, h.1), h.2, h.3)

  ask_answers : (d p s k : ℕ) → 1 ≤ k → k ≤ d → Answers s k (ask d row held a b p s k)
  ask_answers zero p s k o l = absurd (omega arith)
  ask_answers (suc d) p s k o l = go (meets s k) (λ p' s' k' o' l'. ask_answers d p' s' k' o' l')
    where
      go : Meets s k → ((p' s' k' : ℕ) → 1 ≤ k' → k' ≤ d → Answers s' k' (ask d row held a b p' s' k')) → Answers s k (ask (suc d) row held a b p s k)
      go (before h) ih = rw (ask_before (suc d) p s k h) tt
      go (after h) ih = rw (ask_after (suc d) p s k h) tt
      go (whole h j u v) ih = let w = held_in_lem held p s k o in rw (ask_whole d p s k h j u v) (w.0, w.1, omega (arith, w.0), omega (arith, w.1))
      go (cut h j u) ih =
          let w = two s k h j u in
          rw (ask_cut d p s k h j u)
          (lesser_answers s k (ask d row held a b (p + 1) s (k / 2)) (ask d row held a b (p + k / 2) (s + k / 2) (k - k / 2))
          (wider_answers s k s (k / 2) (ask d row held a b (p + 1) s (k / 2)) (omega arith) (omega arith) (ih (p + 1) s (k / 2) (omega arith) (omega arith)))
          (wider_answers s k (s + k / 2) (k - k / 2) (ask d row held a b (p + k / 2) (s + k / 2) (k - k / 2)) (omega arith) (omega arith) (ih (p + k / 2) (s + k / 2) (k - k / 2) (omega arith) (omega arith))))

  pub ask_among : (p s k c n : ℕ) → 1 ≤ k → ask k row held a b p s k ≡ by c n → (a ≤ c) × (c < b)
  ask_among p s k c n o e = let w = subst (Answers s k) e (ask_answers k p s k o (omega arith)) in (w.2, w.3)

  -- any depth of at least k gives the same
  ask_enough : (d e p s k : ℕ) → 1 ≤ k → k ≤ d → k ≤ e → ask d row held a b p s k ≡ ask e row held a b p s k
  ask_enough zero e p s k o l r = absurd (omega arith)
  ask_enough (suc d) zero p s k o l r = absurd (omega arith)
  ask_enough (suc d) (suc e) p s k o l r = go (meets s k) (λ p' s' k' o' u v. ask_enough d e p' s' k' o' u v)
    where
      go : Meets s k → ((p' s' k' : ℕ) → 1 ≤ k' → k' ≤ d → k' ≤ e → ask d row held a b p' s' k' ≡ ask e row held a b p' s' k')
          → ask (suc d) row held a b p s k ≡ ask (suc e) row held a b p s k
      go (before h) ih = ask_before (suc d) p s k h ∙ sym (ask_before (suc e) p s k h)
      go (after h) ih = ask_after (suc d) p s k h ∙ sym (ask_after (suc e) p s k h)
      go (whole h j u v) ih = ask_whole d p s k h j u v ∙ sym (ask_whole e p s k h j u v)
      go (cut h j u) ih =
          let w = two s k h j u in
          ask_cut d p s k h j u
          ∙ rw (ih (p + 1) s (k / 2) (omega arith) (omega arith) (omega arith), ih (p + k / 2) (s + k / 2) (k - k / 2) (omega arith) (omega arith) (omega arith))
          (sym (ask_cut e p s k h j u))

  pub ask_inside : (p s k : ℕ) → 1 ≤ k → s < b → a < s + k → a ≤ s → s + k ≤ b → ask k row held a b p s k ≡ by (held_in held p s k) (row (held_in held p s k))
  ask_inside p s zero o h j l r = absurd (omega arith)
  ask_inside p s (suc d) o h j l r = ask_whole d p s (suc d) h j l r

  pub ask_both : (p s k : ℕ) → s < b → a < s + k → (s < a) ⊎ (b < s + k)
      → ask k row held a b p s k ≡ lesser (ask (k / 2) row held a b (p + 1) s (k / 2)) (ask (k - k / 2) row held a b (p + k / 2) (s + k / 2) (k - k / 2))
  ask_both p s zero h j u = let w = two s 0 h j u in absurd (omega arith)
  ask_both p s (suc d) h j u =
      let k = suc d in
      let w = two s k h j u in
      ask_cut d p s k h j u
      ∙ rw (ask_enough d (k / 2) (p + 1) s (k / 2) (omega arith) (omega arith) (omega arith), ask_enough d (k - k / 2) (p + k / 2) (s + k / 2) (k - k / 2) (omega arith) (omega arith) (omega arith))

  -- nothing of the second half is asked for
  pub ask_left : (p s k : ℕ) → s < b → a < s + k → (s < a) ⊎ (b < s + k) → b ≤ s + k / 2 → ask k row held a b p s k ≡ ask (k / 2) row held a b (p + 1) s (k / 2)
  ask_left p s k h j u l = ask_both p s k h j u ∙ rw (ask_before (k - k / 2) (p + k / 2) (s + k / 2) (k - k / 2) l) (lesser_nobody (ask (k / 2) row held a b (p + 1) s (k / 2)))

  -- nothing of the first half is asked for
  pub ask_right : (p s k : ℕ) → s < b → a < s + k → (s < a) ⊎ (b < s + k) → s + k / 2 ≤ a
      → ask k row held a b p s k ≡ ask (k - k / 2) row held a b (p + k / 2) (s + k / 2) (k - k / 2)
  unfolding lesser
  ask_right p s k h j u l = ask_both p s k h j u ∙ rw (ask_after (k / 2) (p + 1) s (k / 2) l)

  -- ---- as built

  -- the column, where it is asked for
  unfoldable chosen : ℕ → Best
  chosen c = cond (leb a c && ltb c b) (by c (row c)) nobody

  chosen_in : (c : ℕ) → a ≤ c → c < b → chosen c ≡ by c (row c)
  unfolding chosen
  chosen_in c h j = rw (le-leb a c h, lt-ltb c b j)

  chosen_before : (c : ℕ) → c < a → chosen c ≡ nobody
  unfolding chosen
  chosen_before c h = rw (lt-leb a c h)

  chosen_after : (c : ℕ) → b ≤ c → chosen c ≡ nobody
  unfolding chosen
  chosen_after c h = go (order c a)
    where
      go : Order c a → chosen c ≡ nobody
      go (less _ l) = chosen_before c l
      go (more _ l) = rw (le-leb a c l, le-ltb c b h)

  -- what is held for a stretch is its least
  held_built : (p s k : ℕ) → 1 ≤ k → HeldAt held p (held_from row s k) → by (held_in held p s k) (row (held_in held p s k)) ≡ least_in row s k
  unfolding held_in column_of
  held_built p s k l h = go (order k 2)
    where
      go : Order k 2 → by (held_in held p s k) (row (held_in held p s k)) ≡ least_in row s k
      go (less t q) = let e : k ≡ 1 = omega arith in rw (t, e) (sym (least_one row s))
      go (more t q) =
          let f = least_some row s k l in
          let own : get_or held p 0 ≡ f.column = holds_first held p (column_of (least_in row s k)) (held_from row s (k / 2) ++ held_from row (s + k / 2) (k - k / 2)) (rw (held_halves row s k q) at h) ∙ ap column_of f.here in
          rw (t, own, in_stretch_own s k f.column f.low f.high) (sym f.here)

  ask_built : (d p s k : ℕ) → 1 ≤ k → k ≤ d → HeldAt held p (held_from row s k) → ask d row held a b p s k ≡ least_from chosen s k
  unfolding least_in
  ask_built zero p s k o l h = absurd (omega arith)
  ask_built (suc d) p s k o l h = go (meets s k) (λ p' s' k' o' l' h'. ask_built d p' s' k' o' l' h')
    where
      go : Meets s k → ((p' s' k' : ℕ) → 1 ≤ k' → k' ≤ d → HeldAt held p' (held_from row s' k') → ask d row held a b p' s' k' ≡ least_from chosen s' k')
          → ask (suc d) row held a b p s k ≡ least_from chosen s k
      go (before j) ih = ask_before (suc d) p s k j ∙ sym (least_from_nobody chosen s k (λ c u v. chosen_after c (omega arith)))
      go (after j) ih = ask_after (suc d) p s k j ∙ sym (least_from_nobody chosen s k (λ c u v. chosen_before c (omega arith)))
      go (whole j m u v) ih =
          ask_whole d p s k j m u v
          ∙ held_built p s k o h
          ∙ least_from_same (λ c. by c (row c)) chosen s k (λ c y z. sym (chosen_in c (omega arith) (omega arith)))
      go (cut j m u) ih =
          let w = two s k j m u in
          let e : k ≡ k / 2 + (k - k / 2) = omega arith in
          let firsts = held_from row s (k / 2) in
          let seconds = held_from row (s + k / 2) (k - k / 2) in
          let r = holds_rest held p (column_of (least_in row s k)) (firsts ++ seconds) (rw (held_halves row s k w) at h) in
          let z : p + 1 + length (held_from row s (k / 2)) ≡ p + k / 2 = omega (arith, length_held row s (k / 2)) in
          let first = ih (p + 1) s (k / 2) (omega arith) (omega arith) (holds_left held (p + 1) firsts seconds r) in
          let second = ih (p + k / 2) (s + k / 2) (k - k / 2) (omega arith) (omega arith) (rw z at (holds_right held (p + 1) firsts seconds r)) in
          ask_cut d p s k j m u ∙ rw (first, second) (sym (ap (λ (n : ℕ). least_from chosen s n) e ∙ least_from_split chosen s (k / 2) (k - k / 2)))

  -- asked for any stretch within the columns, it is the least of that stretch
  pub ask_least : (p s k : ℕ) → s ≤ a → a < b → b ≤ s + k → HeldAt held p (held_from row s k) → ask k row held a b p s k ≡ least_in row a (b - a)
  unfolding least_in lesser
  ask_least p s k m l r h =
      let e : k ≡ (a - s) + ((b - a) + (s + k - b)) = omega arith in
      let f : s + (a - s) ≡ a = omega arith in
      let g : a + (b - a) ≡ b = omega arith in
      ask_built k p s k (omega arith) (omega arith) h
      ∙ ap (λ (n : ℕ). least_from chosen s n) e
      ∙ least_from_split chosen s (a - s) ((b - a) + (s + k - b))
      ∙ rw (least_from_nobody chosen s (a - s) (λ c u v. chosen_before c (omega arith)), f, least_from_split chosen a (b - a) (s + k - b), g, least_from_nobody chosen b (s + k - b) (λ c u v. chosen_after c u))
      (lesser_nobody (least_from chosen a (b - a)) ∙ least_from_same chosen (λ c. by c (row c)) a (b - a) (λ c u v. chosen_in c u (omega arith)))

-- rows that agree on the stretch
pub ask_same : (row row' : ℕ → ℕ) (held : List ℕ) (a b d p s k : ℕ) → 1 ≤ k → k ≤ d → ((c : ℕ) → s ≤ c → c < s + k → row c ≡ row' c)
    → ask d row held a b p s k ≡ ask d row' held a b p s k
ask_same row row' held a b zero p s k o l h = absurd (omega arith)
ask_same row row' held a b (suc d) p s k o l h = go (meets row held a b s k) (λ p' s' k' o' l' h'. ask_same row row' held a b d p' s' k' o' l' h')
  where
    go : Meets row held a b s k
        → ((p' s' k' : ℕ) → 1 ≤ k' → k' ≤ d → ((c : ℕ) → s' ≤ c → c < s' + k' → row c ≡ row' c) → ask d row held a b p' s' k' ≡ ask d row' held a b p' s' k')
        → ask (suc d) row held a b p s k ≡ ask (suc d) row' held a b p s k
    go (before j) ih = ask_before row held a b (suc d) p s k j ∙ sym (ask_before row' held a b (suc d) p s k j)
    go (after j) ih = ask_after row held a b (suc d) p s k j ∙ sym (ask_after row' held a b (suc d) p s k j)
    go (whole j m u v) ih =
        let w = held_in_lem held p s k o in
        ask_whole row held a b d p s k j m u v
        ∙ ap (λ (n : ℕ). by (held_in held p s k) n) (h (held_in held p s k) w.0 w.1)
        ∙ sym (ask_whole row' held a b d p s k j m u v)
    go (cut j m u) ih =
        let w = two row held a b s k j m u in
        ask_cut row held a b d p s k j m u
        ∙ rw (ih (p + 1) s (k / 2) (omega arith) (omega arith) (λ c y z. h c y (omega arith)), ih (p + k / 2) (s + k / 2) (k - k / 2) (omega arith) (omega arith) (λ c y z. h c (omega arith) (omega arith)))
        (sym (ask_cut row' held a b d p s k j m u))

held_moved : (held held' : List ℕ) (p p' s k : ℕ) → ((j : ℕ) → j < k - 1 → get_or held (p + j) 0 ≡ get_or held' (p' + j) 0) → held_in held p s k ≡ held_in held' p' s k
unfolding held_in
held_moved held held' p p' s k h = go (order k 2)
  where
    go : Order k 2 → held_in held p s k ≡ held_in held' p' s k
    go (less t _) = rw t
    go (more t l) =
        let e : p + 0 ≡ p = omega arith in
        let f : p' + 0 ≡ p' = omega arith in
        let q : get_or held p 0 ≡ get_or held' p' 0 = rw (e, f) at (h 0 (omega arith)) in
        rw (t, q)

-- places that hold the same
pub ask_moved : (row : ℕ → ℕ) (held held' : List ℕ) (a b d p p' s k : ℕ) → 1 ≤ k → k ≤ d → ((j : ℕ) → j < k - 1 → get_or held (p + j) 0 ≡ get_or held' (p' + j) 0)
    → ask d row held a b p s k ≡ ask d row held' a b p' s k
ask_moved row held held' a b zero p p' s k o l h = absurd (omega arith)
ask_moved row held held' a b (suc d) p p' s k o l h = go (meets row held a b s k) (λ q q' s' k' o' l' h'. ask_moved row held held' a b d q q' s' k' o' l' h')
  where
    go : Meets row held a b s k
        → ((q q' s' k' : ℕ) → 1 ≤ k' → k' ≤ d → ((j : ℕ) → j < k' - 1 → get_or held (q + j) 0 ≡ get_or held' (q' + j) 0) → ask d row held a b q s' k' ≡ ask d row held' a b q' s' k')
        → ask (suc d) row held a b p s k ≡ ask (suc d) row held' a b p' s k
    go (before j) ih = ask_before row held a b (suc d) p s k j ∙ sym (ask_before row held' a b (suc d) p' s k j)
    go (after j) ih = ask_after row held a b (suc d) p s k j ∙ sym (ask_after row held' a b (suc d) p' s k j)
    go (whole j m u v) ih =
        ask_whole row held a b d p s k j m u v
        ∙ ap (λ (c : ℕ). by c (row c)) (held_moved held held' p p' s k h)
        ∙ sym (ask_whole row held' a b d p' s k j m u v)
    go (cut j m u) ih =
        let w = two row held a b s k j m u in
        ask_cut row held a b d p s k j m u
        ∙ rw (ih (p + 1) (p' + 1) s (k / 2) (omega arith) (omega arith) (λ i y. shifted 1 i (omega arith)), ih (p + k / 2) (p' + k / 2) (s + k / 2) (k - k / 2) (omega arith) (omega arith) (λ i y. shifted (k / 2) i (omega arith)))
        (sym (ask_cut row held' a b d p' s k j m u))
      where
        shifted : (n i : ℕ) → n + i < k - 1 → get_or held (p + n + i) 0 ≡ get_or held' (p' + n + i) 0
        shifted n i l = let e : p + n + i ≡ p + (n + i) = omega arith in let f : p' + n + i ≡ p' + (n + i) = omega arith in rw (e, f) (h (n + i) l)

-- ---- what the code has found

module _ (row : ℕ → ℕ) (held : List ℕ) (p s k a b : ℕ) where
  -- a column with its length
  abbrev at : ℕ → Best
  at c = by c (row c)

  -- what is asked for of a stretch
  abbrev asked : ℕ → ℕ → ℕ → Best
  asked p s k = ask k row held a b p s k

  -- what is asked for is a column of the stretch
  pub find_inside : (r : ℕ) → 1 ≤ k → at r ≡ asked p s k → (s ≤ r) × (r < s + k)
  find_inside r o e = let w = subst (Answers row held a b s k) (sym e) (ask_answers row held a b k p s k o (omega arith)) in (w.0, w.1)

  -- all of them are asked for
  pub find_whole : (r : ℕ) → 1 ≤ k → a ≤ s → s + k ≤ b → r ≡ held_in held p s k → at r ≡ asked p s k
  find_whole r o l m e = ap at e ∙ sym (ask_inside row held a b p s k o (omega arith) (omega arith) l m)

  pub find_first : (r : ℕ) → s < b → a < s + k → (s < a) ⊎ (b < s + k) → b ≤ s + k / 2 → at r ≡ asked (p + 1) s (k / 2) → at r ≡ asked p s k
  find_first r h j u m q = q ∙ sym (ask_left row held a b p s k h j u m)

  pub find_second : (r : ℕ) → s < b → a < s + k → (s < a) ⊎ (b < s + k) → s + k / 2 ≤ a
      → at r ≡ asked (p + k / 2) (s + k / 2) (k - k / 2) → at r ≡ asked p s k
  find_second r h j u m q = q ∙ sym (ask_right row held a b p s k h j u m)

  pub find_both : (r c : ℕ) → (s < a) ⊎ (b < s + k) → a < s + k / 2 → s + k / 2 < b
      → at r ≡ asked (p + k / 2) (s + k / 2) (k - k / 2) → at c ≡ lesser (asked (p + 1) s (k / 2)) (at r)
      → at c ≡ asked p s k
  find_both r c u h j x z = z ∙ rw x (sym (ask_both row held a b p s k (omega arith) (omega arith) u))

  -- the first half is looked up whole
  pub start_both : (l r : ℕ) → a ≤ s → s + k / 2 < b → b < s + k → l ≡ held_in held (p + 1) s (k / 2)
      → at r ≡ lesser (at l) (asked (p + k / 2) (s + k / 2) (k - k / 2))
      → at r ≡ asked p s k
  start_both l r h j m e q =
      let x = ask_inside row held a b (p + 1) s (k / 2) (omega arith) (omega arith) (omega arith) h (omega arith) in
      q ∙ rw (e, sym x) (sym (ask_both row held a b p s k (omega arith) (omega arith) (inr m)))

  -- with a best before them
  pub until_end : (best c r : ℕ) → 1 ≤ k → a ≤ s → s + k ≤ b → c ≡ held_in held p s k → at r ≡ lesser (at best) (at c) → at r ≡ lesser (at best) (asked p s k)
  until_end best c r o l m e q = q ∙ ap (lesser (at best)) (find_whole c o l m e)

  pub until_first : (best r : ℕ) → s < b → a ≤ s → b < s + k → b ≤ s + k / 2 → at r ≡ lesser (at best) (asked (p + 1) s (k / 2)) → at r ≡ lesser (at best) (asked p s k)
  until_first best r h j u m q = q ∙ ap (lesser (at best)) (sym (ask_left row held a b p s k h (omega arith) (inr u) m))

  pub until_both : (best c next r : ℕ) → a ≤ s → s + k / 2 < b → b < s + k → c ≡ held_in held (p + 1) s (k / 2) → at next ≡ lesser (at best) (at c)
      → at r ≡ lesser (at next) (asked (p + k / 2) (s + k / 2) (k - k / 2))
      → at r ≡ lesser (at best) (asked p s k)
  until_both best c next r h j m e n q =
      let x = ask_inside row held a b (p + 1) s (k / 2) (omega arith) (omega arith) (omega arith) h (omega arith) in
      let l : at next ≡ lesser (at best) (asked (p + 1) s (k / 2)) = n ∙ ap (lesser (at best)) (ap at e ∙ sym x) in
      q
      ∙ ap (λ (y : Best). lesser y (asked (p + k / 2) (s + k / 2) (k - k / 2))) l
      ∙ lesser_assoc (at best) (asked (p + 1) s (k / 2)) (asked (p + k / 2) (s + k / 2) (k - k / 2))
      ∙ ap (lesser (at best)) (sym (ask_both row held a b p s k (omega arith) (omega arith) (inr m)))

  -- with a best behind them
  pub from_end : (best c r : ℕ) → 1 ≤ k → a ≤ s → s + k ≤ b → c ≡ held_in held p s k → at r ≡ lesser (at c) (at best) → at r ≡ lesser (asked p s k) (at best)
  from_end best c r o l m e q = q ∙ ap (λ (y : Best). lesser y (at best)) (find_whole c o l m e)

  pub from_second : (best r : ℕ) → s < a → a < s + k → s + k ≤ b → s + k / 2 ≤ a → at r ≡ lesser (asked (p + k / 2) (s + k / 2) (k - k / 2)) (at best)
      → at r ≡ lesser (asked p s k) (at best)
  from_second best r u h j m q = q ∙ ap (λ (y : Best). lesser y (at best)) (sym (ask_right row held a b p s k (omega arith) h (inl u) m))

  pub from_both : (best c next r : ℕ) → s < a → a < s + k / 2 → s + k ≤ b → c ≡ held_in held (p + k / 2) (s + k / 2) (k - k / 2) → at next ≡ lesser (at c) (at best)
      → at r ≡ lesser (asked (p + 1) s (k / 2)) (at next)
      → at r ≡ lesser (asked p s k) (at best)
  from_both best c next r u h j e n q =
      let x = ask_inside row held a b (p + k / 2) (s + k / 2) (k - k / 2) (omega arith) (omega arith) (omega arith) (omega arith) (omega arith) in
      let l : at next ≡ lesser (asked (p + k / 2) (s + k / 2) (k - k / 2)) (at best) = n ∙ ap (λ (y : Best). lesser y (at best)) (ap at e ∙ sym x) in
      q
      ∙ ap (lesser (asked (p + 1) s (k / 2))) l
      ∙ sym (lesser_assoc (asked (p + 1) s (k / 2)) (asked (p + k / 2) (s + k / 2) (k - k / 2)) (at best))
      ∙ ap (λ (y : Best). lesser y (at best)) (sym (ask_both row held a b p s k (omega arith) (omega arith) (inl u)))
