-- The route to a settled vertex, arc by arc.
--   joined_map route_walk    arcs that join up: from one kind of arc to another; a route is a walk
--   Grown grown              each settled vertex but the source was settled by an arc from one settled before it
--   block_route              the arcs back from a settled vertex, in order
--   origin                   for a program: the arc that a settled vertex was settled by
--   source_arc route_none    the source has none; without one there are no arcs
--   route_step               one arc back
--   arcs_fit                 the numbers of 255 arcs fill the buffer
use Rattle.std.proofs.Math.Path.{◌≡◌, refl, sym, ap}
use Rattle.std.proofs.Common.{◌∙◌, zero-add, le_refl}
use Rattle.std.specs.Prelude.{true, false, length}
use mathlib.Core.List.{List, [], ◌∷◌, ◌++◌, map, map-append, flat_map}
use Rattle.std.proofs.Math.Option.{Option, none, some}
use Prim.Native.Nat.{ℕ, zero, suc, ◌+◌, ◌-◌, ◌*◌, ◌≤◌, ◌<◌}
use native.Mathlib.Omega.{arith}
use borrow.Author.Tests.{eq-eqb}
use Rattle.std.proofs.Math.ListN.{length-append}
use Rattle.definitions.specs.Limits.{max_arcs, arc_size, route_places}
use Rattle.definitions.specs.Lists.{Every, mem, total}
use Rattle.definitions.specs.Network.{Piece, Arc, Walk, stay, then, RouteArc, IsArc, Joined, vertices_on, Route}
use Rattle.definitions.specs.Blocks.{Block}
use Rattle.definitions.specs.Best.{Best, nobody, by}
use Rattle.definitions.specs.Labelling.{Settled, settled_at, State, label_of, arc_of, chosen, extract_from, advance, steps, start, reached, arcs_to, route_to}
use Rattle.definitions.specs.Entries.{arc_numbers, arcs_of}
use Rattle.definitions.proofs.Laws.Members.{every_imp}
use Rattle.logic.specs.Tests.{clash, Equal, equal, differ, equality}
use Rattle.basics.specs.ListLaws.{every_snoc, total_append, different_snoc, mem_snoc, length_padded}
use Rattle.labelling_laws.proofs.Labels.{label_old, label_new, status, which, labelled_mem, unlabelled, arc_old, arc_new}
use Rattle.labelling_laws.specs.Labels.{Status, settled, unsettled, Which, before, last}
use Rattle.labelling_laws.specs.Walks.{IsBlockArc, Arrives}
use Rattle.labelling_laws.specs.BlockSteps.{block_at, column_vertex, Setting, Choice}
use Rattle.labelling_laws.proofs.BlockSteps.{steps_hold, choice}
use Rattle.labelling_laws.proofs.LoopLaws.{start_is, advance_old, advance_new}
use Rattle.labelling_laws.specs.Routes.{vertices, BlockRoute, Origin, source_itself, by_arc}

-- ---- arcs that join up

-- one arc more
joined_snoc : (P : RouteArc → Type 0) (s v : ℕ) (arcs : List RouteArc) (a : RouteArc) → Joined P s a.from arcs → P a → a.to ≡ v → Joined P s v (arcs ++ a ∷ [])
joined_snoc P s v [] a j p q = (sym j, p, q)
joined_snoc P s v (b ∷ arcs) a j p q = (j.0, j.1, joined_snoc P b.to v arcs a j.2 p q)

pub joined_map : (P Q : RouteArc → Type 0) → ((a : RouteArc) → P a → Q a) → (s t : ℕ) (arcs : List RouteArc) → Joined P s t arcs → Joined Q s t arcs
joined_map P Q f s t [] j = j
joined_map P Q f s t (a ∷ arcs) j = (j.0, f a j.1, joined_map P Q f a.to t arcs j.2)

network_arc : (qs : List Piece) (a : RouteArc) → IsArc qs a → Arc qs a.from a.to a.length
network_arc qs a h = record { number = a.piece - 1; number_in = omega (arith, h.low, h.high); arc = h.arc }

-- behind a walk
joined_walk : (qs : List Piece) (s u t l : ℕ) (arcs : List RouteArc) → Walk (Arc qs) s u l → Joined (IsArc qs) u t arcs → Walk (Arc qs) s t (l + total (map (λ a. a.length) arcs))
unfolding total
joined_walk qs s u t l [] w j = let e : l + 0 ≡ l = omega arith in rw (e, ← j) w
joined_walk qs s u t l (a ∷ arcs) w j =
    let e : l + (a.length + total (map (λ a. a.length) arcs)) ≡ l + a.length + total (map (λ a. a.length) arcs) = omega arith in
    let arc : Arc qs u a.to a.length = rw j.0 at (network_arc qs a j.1) in
    rw e (joined_walk qs s a.to t (l + a.length) arcs (then w arc) j.2)

pub route_walk : (qs : List Piece) (s t label : ℕ) (arcs : List RouteArc) → Route qs s t label arcs → Walk (Arc qs) s t label
route_walk qs s t label arcs r = rw (r.adds, zero-add) at (joined_walk qs s s t 0 arcs stay r.joins)

-- ---- the settled vertices, in the order settled

-- what is not among ws is not among some of them
not_among : (v : ℕ) (us ws : List ℕ) → Every (λ u. mem u ws ≡ true) us → mem v ws ≡ false → mem v us ≡ false
unfolding mem
not_among v [] ws h n = refl
not_among v (u ∷ us) ws h n = go (equality v u) (not_among v us ws h.1 n)
  where
    go : Equal v u → mem v us ≡ false → mem v (u ∷ us) ≡ false
    go (equal t q) ih = absurd (clash (rw (← q) at h.0) n)
    go (differ t q) ih = simp t ih

module _ (bs : List Block) (source : ℕ) where
  -- each but the source was settled by an arc from one settled before it
  data Grown : List Settled → Type 0 where
    first : Grown (settled_at source 0 none ∷ [])
    next : {xs : List Settled} {w k : ℕ} {a : RouteArc} → Grown xs → label_of w xs ≡ none → Arrives bs xs w k a → Grown (xs ++ settled_at w k (some a) ∷ [])

  -- ---- the arcs back from a settled vertex

  -- with one settled vertex more
  route_old : (xs : List Settled) (x : Settled) (v l : ℕ) (arcs : List RouteArc) → BlockRoute bs source xs v l arcs → BlockRoute bs source (xs ++ x ∷ []) v l arcs
  route_old xs x v l arcs r = record {
    joins = r.joins;
    no_repeat = r.no_repeat;
    known = every_imp (λ u. mem u (vertices xs) ≡ true) _ (vertices_on source arcs) (λ u h. rw (map-append (λ (x : Settled). x.vertex) xs (x ∷ []), mem_snoc u (vertices xs) x.vertex, h)) r.known;
    adds = r.adds;
    few = simp length-append (omega (arith, r.few));
  }

  -- and one arc more, to it
  route_new : (xs : List Settled) (v l : ℕ) (a : RouteArc) → label_of v xs ≡ none → (h : Arrives bs xs v l a) → (arcs : List RouteArc)
      → BlockRoute bs source xs a.from h.before arcs → BlockRoute bs source (xs ++ settled_at v l (some a) ∷ []) v l (arcs ++ a ∷ [])
  unfolding total
  route_new xs v l a fresh h arcs r = record {
    joins = joined_snoc (IsBlockArc bs) source v arcs a r.joins h.is_arc h.to_is;
    no_repeat = rw on (different_snoc (vertices_on source arcs) v r.no_repeat (not_among v (vertices_on source arcs) (vertices xs) r.known (unlabelled v xs fresh)));
    known = rw on (every_snoc _ (vertices_on source arcs) v (route_old xs x a.from h.before arcs r).known (labelled_mem v l (xs ++ x ∷ []) (label_new v x xs refl fresh)));
    adds = omega (arith, total_append (λ (a : RouteArc). a.length) arcs (a ∷ []), r.adds, h.sum_is);
    few = simp length-append (omega (arith, r.few));
  }
    where
      x : Settled
      x = settled_at v l (some a)

      on : map (λ a. a.to) (arcs ++ a ∷ []) ≡ map (λ a. a.to) arcs ++ v ∷ []
      on = map-append (λ (a : RouteArc). a.to) arcs (a ∷ []) ∙ rw h.to_is

  -- In a list that has grown from xs. An arc starts from a vertex settled before: as many as there are settled vertices are enough.
  route_in_lem : {xs : List Settled} → Grown xs → (all : List Settled) → ((u l : ℕ) → label_of u xs ≡ some l → arc_of u all ≡ arc_of u xs)
      → (fuel : ℕ) → length xs ≤ fuel → (v l : ℕ) → label_of v xs ≡ some l → BlockRoute bs source xs v l (arcs_to fuel all (arc_of v xs))
  unfolding arcs_to
  route_in_lem first all same zero h v l q = absurd (omega arith)
  route_in_lem first all same (suc fuel) h v l q = go (which v l [] (settled_at source 0 none) (unfold label_of in refl) q)
    where
      go : Which v l [] (settled_at source 0 none) → BlockRoute bs source (settled_at source 0 none ∷ []) v l (arcs_to (suc fuel) all (arc_of v (settled_at source 0 none ∷ [])))
      go (before p) = unfold label_of in let z : ◌≡◌ {A = ℕ} 0 1 = cc in absurd (omega arith)
      go (last e z) = unfold arc_of mem total in
          rw (e, eq-eqb source source refl) (record { joins = refl; no_repeat = (refl, tt); known = (simp (eq-eqb source source refl), tt); adds = sym z; few = omega arith })
  route_in_lem (next {xs} {w} {k} {a} g fresh r) all same zero h v l q = absurd (omega (arith, length-append xs (settled_at w k (some a) ∷ [])))
  route_in_lem (next {xs} {w} {k} {a} g fresh r) all same (suc fuel) h v l q = go (which v l xs x fresh q) (λ p. route_in_lem g all earlier (suc fuel) (omega (arith, count)) v l p)
      (route_in_lem g all earlier fuel (omega (arith, count)) a.from r.before r.from_is)
    where
      x : Settled
      x = settled_at w k (some a)

      count : length (xs ++ x ∷ []) ≡ suc (length xs)
      count = simp length-append (omega arith)

      earlier : (u l : ℕ) → label_of u xs ≡ some l → arc_of u all ≡ arc_of u xs
      earlier u l p = same u l (label_old u xs _ l p) ∙ arc_old u xs _ l p

      go : Which v l xs x → (label_of v xs ≡ some l → BlockRoute bs source xs v l (arcs_to (suc fuel) all (arc_of v xs))) → BlockRoute bs source xs a.from r.before (arcs_to fuel all (arc_of a.from xs))
          → BlockRoute bs source (xs ++ x ∷ []) v l (arcs_to (suc fuel) all (arc_of v (xs ++ x ∷ [])))
      go (before p) old from = rw (arc_old v xs x l p) (route_old xs x v l _ (old p))
      go (last e z) old from = rw (e, z, arc_new w x xs refl fresh, earlier a.from r.before r.from_is) (route_new xs w k a fresh r _ from)

  -- ---- the arc that a settled vertex was settled by

  no_arc : {xs : List Settled} → Grown xs → (label_of source xs ≡ some 0) × (arc_of source xs ≡ none)
  unfolding label_of arc_of
  no_arc first = (simp (eq-eqb source source refl), simp (eq-eqb source source refl))
  no_arc (next {xs} {w} {k} {a} g fresh r) = let h = no_arc g in (label_old source xs _ 0 h.0, arc_old source xs _ 0 h.0 ∙ h.1)

  arrives_old : (xs : List Settled) (x : Settled) (v l : ℕ) (a : RouteArc) → Arrives bs xs v l a → Arrives bs (xs ++ x ∷ []) v l a
  arrives_old xs x v l a h = record { before = h.before; from_is = label_old a.from xs x h.before h.from_is; to_is = h.to_is; sum_is = h.sum_is; is_arc = h.is_arc }

  origin_in : {xs : List Settled} → Grown xs → (v l : ℕ) → label_of v xs ≡ some l → Origin bs source xs v l
  unfolding label_of
  origin_in first v l q = go (which v l [] (settled_at source 0 none) refl q)
    where
      go : Which v l [] (settled_at source 0 none) → Origin bs source (settled_at source 0 none ∷ []) v l
      go (before p) = let z : ◌≡◌ {A = ℕ} 0 1 = cc in absurd (omega arith)
      go (last e z) = source_itself e z
  origin_in (next {xs} {w} {k} {a} g fresh r) v l q = go (which v l xs x fresh q) (λ p. origin_in g v l p)
    where
      x : Settled
      x = settled_at w k (some a)

      old : label_of v xs ≡ some l → Origin bs source xs v l → Origin bs source (xs ++ x ∷ []) v l
      old p (source_itself e z) = source_itself e z
      old p (by_arc b e h) = by_arc b (arc_old v xs x l p ∙ e) (arrives_old xs x v l b h)

      go : Which v l xs x → (label_of v xs ≡ some l → Origin bs source xs v l) → Origin bs source (xs ++ x ∷ []) v l
      go (before p) ih = old p (ih p)
      go (last e z) ih = rw (e, z) (by_arc a (arc_new w x xs refl fresh) (arrives_old xs x w k a r))

-- ---- after any number of steps

module _ (bs : List Block) (n source : ℕ) (given : Setting bs n source) where
  grown : (m : ℕ) → Grown bs source (steps m (start bs source)).settled
  unfolding steps
  grown zero = rw (start_is bs source) first
  grown (suc m) = go (chosen st) refl (grown m)
    where
      st : State
      st = steps m (start bs source)

      by_choice : (level i s : ℕ) → chosen st ≡ by i s → (ch : Choice bs n source given.small st level i s) → Status (column_vertex (block_at st i) ch.col) st.settled
          → Grown bs source st.settled → Grown bs source (advance st).settled
      by_choice level i s q ch (settled l p) g = rw (advance_old st i ch.col s q ch.here l p) g
      by_choice level i s q ch (unsettled p) g = rw (advance_new st i ch.col s q ch.here p) (next g p ch.arrives)

      go : (x : Best) → chosen st ≡ x → Grown bs source st.settled → Grown bs source (advance st).settled
      go nobody q g = unfold advance extract_from in rw q g
      go (by i s) q g =
          let held = steps_hold bs n source given m in
          by_choice held.level i s q (choice bs n source given.small st held.level i s held.inv q) (status _ st.settled) g

  pub block_route : (m v l : ℕ) → let st = steps m (start bs source) in label_of v st.settled ≡ some l → BlockRoute bs source st.settled v l (route_to st v)
  unfolding route_to reached
  block_route m v l q = let st = steps m (start bs source) in route_in_lem bs source (grown m) st.settled (λ u l p. refl) (length st.settled) (le_refl _) v l q

  pub origin : (m v l : ℕ) → let st = steps m (start bs source) in label_of v st.settled ≡ some l → Origin bs source st.settled v l
  origin m v l q = origin_in bs source (grown m) v l q

  pub source_arc : (m : ℕ) → arc_of source (steps m (start bs source)).settled ≡ none
  source_arc m = (no_arc bs source (grown m)).1

-- ---- of any state

pub route_none : (st : State) (v : ℕ) → arc_of v st.settled ≡ none → route_to st v ≡ []
unfolding route_to
route_none st v q = rw q (go (reached st))
  where
    go : (fuel : ℕ) → arcs_to fuel st.settled none ≡ []
    go zero = unfold arcs_to in refl
    go (suc fuel) = unfold arcs_to in refl

-- more fuel than arcs changes nothing
spare : (xs : List Settled) (fuel : ℕ) (x : Option RouteArc) → length (arcs_to fuel xs x) < fuel → arcs_to (suc fuel) xs x ≡ arcs_to fuel xs x
unfolding arcs_to
spare xs zero x h = absurd (omega arith)
spare xs (suc fuel) none h = refl
spare xs (suc fuel) (some a) h =
    ap (λ (arcs : List RouteArc). arcs ++ a ∷ []) (spare xs fuel (arc_of a.from xs) (omega (arith, length-append (arcs_to fuel xs (arc_of a.from xs)) (a ∷ []))))

-- the arcs to a vertex are those to where its own arc starts, and that one
pub route_step : (st : State) (v : ℕ) (a : RouteArc) → arc_of v st.settled ≡ some a → length (route_to st v) < reached st → route_to st v ≡ route_to st a.from ++ a ∷ []
unfolding route_to
route_step st v a q h = rw q (go (reached st) (rw q at h))
  where
    go : (fuel : ℕ) → length (arcs_to fuel st.settled (some a)) < fuel → arcs_to fuel st.settled (some a) ≡ arcs_to fuel st.settled (arc_of a.from st.settled) ++ a ∷ []
    go zero l = absurd (omega arith)
    go (suc fuel) l = unfold arcs_to in
        ap (λ (arcs : List RouteArc). arcs ++ a ∷ []) (sym (spare st.settled fuel (arc_of a.from st.settled)
        (omega (arith, length-append (arcs_to fuel st.settled (arc_of a.from st.settled)) (a ∷ [])))))

-- ---- the buffer

pub numbers_length : (arcs : List RouteArc) → length (flat_map arc_numbers arcs) ≡ arc_size * length arcs
unfolding flat_map arc_numbers
numbers_length [] = refl
numbers_length (a ∷ arcs) = omega (arith, length-append (arc_numbers a) (flat_map arc_numbers arcs), numbers_length arcs)

pub arcs_fit : (arcs : List RouteArc) → length arcs ≤ max_arcs → length (arcs_of arcs) ≡ route_places
unfolding arcs_of
arcs_fit arcs h = length_padded route_places 0 (flat_map arc_numbers arcs) (omega (arith, numbers_length arcs))
