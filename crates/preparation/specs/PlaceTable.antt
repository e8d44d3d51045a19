-- The places of each vertex, linked: what stands at a vertex and at a place.
--   StandsAt                         a vertex stands at a place of all pieces
--   Next                             a word that names the first place of a vertex from some place on
--   Linked stored all_linked         all words do
--   places_long                      how many words there are
--   vertex_at                        the vertex of a place, in its piece
use Rattle.std.specs.Prelude.{◌≡◌, refl, cond, true, false, ◌≢◌, List, leb, get_or, length, set, drop, replicate}
use Rattle.std.proofs.Common.{sym, ◌∙◌, ⊎_elim, length-set, get_or-set_same, get_or-set_other}
use Prim.Native.Nat.{ℕ, zero, suc, ◌+◌, ◌-◌, ◌*◌, ◌/◌, ◌≤◌, ◌<◌}
use native.Mathlib.Omega.{arith}
use borrow.Author.Tests.{le-leb, leb-true}
use Rattle.std.proofs.lemmas.List.{length-replicate, get_or-replicate}
use Rattle.std.proofs.Math.Seq.{get_or-take, get_or-drop}
use Rattle.definitions.specs.Limits.{max_vertices, max_pieces, row_places, vertex_places}
use Rattle.definitions.specs.Lists.{within}
use Rattle.definitions.specs.Judgement.{piece_at}
use Rattle.logic.specs.Tests.{clash, split_at, and_left, and_right, Truth, holds, fails, truth, Equal, equal, differ, equality}
use Rattle.preparation.specs.Prepared.{size_at, place_count, store_place, store_places, places_from, places_of}
use Rattle.preparation.specs.Placements.{size_small}
use Rattle.preparation.specs.Numbering.{Fits, size_is}

module _ (p : ℕ) (sizes vertices : List ℕ) where
  -- place x of all pieces is a place of its piece, and v stands there
  pub record StandsAt (v x : ℕ) : Type 0 where
    pub inside : x < vertex_places
    pub used : x - row_places * (x / row_places) < size_at p sizes (x / row_places)
    pub vertex : get_or vertices x 0 ≡ v

  -- a word is 1 + the first place of v from the place `from` on, or 0 if there is none
  pub record Next (v from word : ℕ) : Type 0 where
    pub there : (x : ℕ) → word ≡ suc x → (from ≤ x) × StandsAt v x
    pub least : (y : ℕ) → from ≤ y → StandsAt v y → (1 ≤ word) × (word ≤ suc y)

  -- the places from the place `from` on are linked
  pub record Linked (xs : List ℕ) (from : ℕ) : Type 0 where
    pub long : length xs ≡ place_count
    pub starts : (v : ℕ) → 1 ≤ v → v ≤ max_vertices → Next v from (get_or xs (v - 1) 0)
    pub nexts : (v x : ℕ) → 1 ≤ v → v ≤ max_vertices → from ≤ x → StandsAt v x → Next v (suc x) (get_or xs (max_vertices + x) 0)

  -- ---- places at which no vertex stands

  earlier_next : (v n m word : ℕ) → m ≤ n → ((y : ℕ) → m ≤ y → y < n → StandsAt v y → ⊥) → Next v n word → Next v m word
  earlier_next v n m word l none h = record {
    there = λ x e. let r = h.there x e in (omega (arith, r.0), r.1);
    least = λ y a s. ⊎_elim (λ (b : y < n). absurd (none y a b s)) (λ (b : n ≤ y). h.least y b s) (split_at y n);
  }

  earlier : (xs : List ℕ) (n m : ℕ) → m ≤ n → ((v y : ℕ) → 1 ≤ v → v ≤ max_vertices → m ≤ y → y < n → StandsAt v y → ⊥) → Linked xs n → Linked xs m
  earlier xs n m l none h = record {
    long = h.long;
    starts = λ v a b. earlier_next v n m (get_or xs (v - 1) 0) l (λ y. none v y a b) (h.starts v a b);
    nexts = λ v x a b r s. ⊎_elim (λ (c : x < n). absurd (none v x a b r c s)) (λ (c : n ≤ x). h.nexts v x a b c s) (split_at x n);
  }

  -- ---- one store

  module _ (xs : List ℕ) (x : ℕ) (inside : x < vertex_places) (used : x - row_places * (x / row_places) < size_at p sizes (x / row_places)) (h : Linked xs (suc x)) where
    abbrev u : ℕ
    u = get_or vertices x 0

    abbrev ys : List ℕ
    ys = set (set xs (max_vertices + x) (get_or xs (get_or vertices x 0 - 1) 0)) (get_or vertices x 0 - 1) (suc x)

    bounds : (v : ℕ) → 1 ≤ v → v ≤ max_vertices → within max_vertices v ≡ true
    unfolding within
    bounds v a b = simp (le-leb 1 v a, le-leb v max_vertices b)

    -- the vertex at x is out of bounds
    module _ (t : within max_vertices (get_or vertices x 0) ≡ false) where
      nobody : (v y : ℕ) → 1 ≤ v → v ≤ max_vertices → x ≤ y → y < suc x → StandsAt v y → ⊥
      nobody v y a b r s g =
          let e : y ≡ x = omega arith in
          let w : get_or vertices x 0 ≡ v = rw e at g.vertex in
          clash (bounds v a b) (rw w at t)

      left_out : Linked xs x
      left_out = earlier xs (suc x) x (omega arith) nobody h

    module _ (low : 1 ≤ get_or vertices x 0) (high : get_or vertices x 0 ≤ max_vertices) where
      others : (n : ℕ) → n ≢ max_vertices + x → n ≢ get_or vertices x 0 - 1 → get_or ys n 0 ≡ get_or xs n 0
      others n q r = get_or-set_other (set xs (max_vertices + x) (get_or xs (u - 1) 0)) (u - 1) n (suc x) 0 r ∙ get_or-set_other xs (max_vertices + x) n (get_or xs (u - 1) 0) 0 q

      own_start : get_or ys (get_or vertices x 0 - 1) 0 ≡ suc x
      own_start = get_or-set_same (set xs (max_vertices + x) (get_or xs (u - 1) 0)) (u - 1) (suc x) 0 (rw (length-set xs (max_vertices + x) (get_or xs (u - 1) 0), h.long) (omega arith))

      own_next : get_or ys (max_vertices + x) 0 ≡ get_or xs (get_or vertices x 0 - 1) 0
      own_next =
          get_or-set_other (set xs (max_vertices + x) (get_or xs (u - 1) 0)) (u - 1) (max_vertices + x) (suc x) 0 (λ e. omega arith)
          ∙ get_or-set_same xs (max_vertices + x) (get_or xs (u - 1) 0) 0 (omega (arith, h.long))

      begins : (v : ℕ) → 1 ≤ v → v ≤ max_vertices → Next v x (get_or ys (v - 1) 0)
      begins v a b = go (equality v u)
        where
          go : Equal v (get_or vertices x 0) → Next v x (get_or ys (v - 1) 0)
          go (equal t e) = rw (e, own_start) (record {
            there = λ y f. let g : y ≡ x = omega arith in (omega arith, rw g (record { inside = inside; used = used; vertex = refl }));
            least = λ y r s. (omega arith, omega arith);
          })
          go (differ t q) = rw (others (v - 1) (λ e. omega arith) (λ e. q (omega arith))) (earlier_next v (suc x) x (get_or xs (v - 1) 0) (omega arith)
              (λ y r s g. let e : y ≡ x = omega arith in absurd (q (sym (rw e at g.vertex)))) (h.starts v a b))

      follows : (v y : ℕ) → 1 ≤ v → v ≤ max_vertices → x ≤ y → StandsAt v y → Next v (suc y) (get_or ys (max_vertices + y) 0)
      follows v y a b r s = go (equality y x)
        where
          go : Equal y x → Next v (suc y) (get_or ys (max_vertices + y) 0)
          go (equal t e) = let w : get_or vertices x 0 ≡ v = rw e at s.vertex in rw (e, own_next, w) (h.starts v a b)
          go (differ t q) = rw (others (max_vertices + y) (λ e. q (omega arith)) (λ e. omega arith)) (h.nexts v y a b (omega arith) s)

      put_in : Linked ys x
      put_in = record {
        long = length-set (set xs (max_vertices + x) (get_or xs (u - 1) 0)) (u - 1) (suc x) ∙ length-set xs (max_vertices + x) (get_or xs (u - 1) 0) ∙ h.long;
        starts = begins;
        nexts = follows;
      }

    stored : Linked (store_place x (get_or vertices x 0) xs) x
    unfolding store_place within
    stored = go (truth (within max_vertices u))
      where
        go : Truth (within max_vertices (get_or vertices x 0)) → Linked (cond (within max_vertices (get_or vertices x 0)) ys xs) x
        go (holds t) = rw t (put_in (leb-true 1 u (and_left (leb 1 u) (leb u max_vertices) t)) (leb-true u max_vertices (and_right (leb 1 u) (leb u max_vertices) t)))
        go (fails t) = rw t (left_out t)

  -- ---- all stores

  none_linked : Linked (replicate place_count 0) vertex_places
  none_linked = record {
    long = length-replicate {A = ℕ} place_count 0;
    starts = λ v a b. rw (get_or-replicate {A = ℕ} place_count (v - 1) 0 0 (omega arith)) (record { there = λ x e. absurd (omega arith); least = λ y r s. absurd (omega (arith, s.inside)) });
    nexts = λ v x a b r s. absurd (omega (arith, s.inside));
  }

  piece_linked : (d : ℕ) → d < max_pieces → (xs : List ℕ) → Linked xs (row_places * d + size_at p sizes d) → (k : ℕ) → k ≤ size_at p sizes d
      → Linked (store_places vertices d (size_at p sizes d) xs k) (row_places * d + (size_at p sizes d - k))
  unfolding store_places
  piece_linked d l xs h zero r = let e : size_at p sizes d - 0 ≡ size_at p sizes d = omega arith in rw e h
  piece_linked d l xs h (suc k) r =
      let m = size_at p sizes d in
      let small = size_small p sizes d in
      let e : row_places * d + (m - suc k) ≡ row_places * d + (m - 1 - k) = omega arith in
      let f : suc (row_places * d + (m - 1 - k)) ≡ row_places * d + (m - k) = omega arith in
      let g : (row_places * d + (m - 1 - k)) / row_places ≡ d = omega arith in
      rw e (stored (store_places vertices d m xs k) (row_places * d + (m - 1 - k)) (omega arith) (rw g (omega arith)) (rw f (piece_linked d l xs h k (omega arith))))

  linked_from : (k : ℕ) → k ≤ max_pieces → Linked (places_from p sizes vertices k) (row_places * (max_pieces - k))
  unfolding places_from
  linked_from zero r = none_linked
  linked_from (suc k) r =
      let d : ℕ = max_pieces - 1 - k in
      let m = size_at p sizes d in
      let small = size_small p sizes d in
      let e : row_places * d + (m - m) ≡ row_places * (max_pieces - suc k) = omega arith in
      rw (← e) (piece_linked d (omega arith) (places_from p sizes vertices k)
      (earlier (places_from p sizes vertices k) (row_places * (max_pieces - k)) (row_places * d + m) (omega arith)
      (λ v y a b s t g. let f : y / row_places ≡ d = omega arith in absurd (omega (arith, rw f at g.used)))
      (linked_from k (omega arith))) m (omega arith))

  pub all_linked : Linked (places_of p sizes vertices) 0
  unfolding places_of
  all_linked = linked_from max_pieces (omega arith)

  pub places_long : length (places_of p sizes vertices) ≡ place_count
  places_long = all_linked.long

-- ---- the places of a piece

module _ (p : ℕ) (sizes vertices lengths : List ℕ) (fits : Fits p sizes vertices) (d : ℕ) (l : d < p) where
  pub vertex_at : (i : ℕ) → i < size_at p sizes d → get_or (piece_at sizes vertices lengths d).vertices i 0 ≡ get_or vertices (row_places * d + i) 0
  unfolding piece_at
  vertex_at i r =
      get_or-take (get_or sizes d 0) (drop (row_places * d) vertices) i 0 (omega (arith, size_is p sizes vertices lengths fits d l)) ∙ get_or-drop (row_places * d) vertices i 0
