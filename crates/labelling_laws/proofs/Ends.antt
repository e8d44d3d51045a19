-- The labelling of a list of blocks makes no call that is refused, ends, and its counts are bounded.
--   start_extracts step_extracts goes ends finished    each step extracts one column, so it ends
--   calls_done                           every call was done
--   labels_short labels_in reached_few vertices_in vertices_differ    labels, and the settled vertices
--   extractions_bound insertions_bound   the counts
--   welcome_start welcome_step           for a program: no activation of a step is refused
use Rattle.std.specs.Prelude.{◌≡◌, ◌⊎◌, set}
use Rattle.std.proofs.Math.Path.{refl, sym}
use Rattle.std.proofs.Common.{ap, ◌∙◌, inl, add-zero}
use mathlib.Core.List.{List, [], ◌∷◌, map, map-map}
use Rattle.std.proofs.Math.Option.{Option, none, some}
use Rattle.std.proofs.Math.Logic.{inr}
use Prim.Native.Nat.{ℕ, zero, suc, ◌+◌, ◌-◌, ◌≤◌, ◌<◌}
use native.Mathlib.Omega.{arith}
use Rattle.std.proofs.Math.ListN.{length}
use Rattle.definitions.specs.Limits.{max_label}
use Rattle.definitions.specs.Lists.{total, Every}
use Rattle.definitions.specs.Network.{RouteArc}
use Rattle.definitions.specs.Blocks.{Block}
use Rattle.definitions.specs.Best.{Best, nobody, by, Lowest}
use Rattle.definitions.proofs.Laws.LeastLaws.{found_is}
use Rattle.definitions.specs.Labelling.{BlockState, extraction, fresh_block, apply, least_of, activate_vertex, settled_at, State, label_of, settle_as, settle, no_block_state, chosen, place_in, extract_from, advance, steps, start, columns, labelling, reached, extractions, insertions}
use Rattle.definitions.proofs.Laws.Members.{every_imp}
use Rattle.basics.specs.ListLaws.{every_map, map_same, total_set, total_le, Different}
use Rattle.labelling_laws.proofs.Labels.{label_new, labelled}
use Rattle.labelling_laws.specs.OneBlock.{Fit, Good, Welcome, inserted_most}
use Rattle.labelling_laws.proofs.OneBlock.{fresh_fine, welcome, activate_extracted, extract_length, extracted_bound, inserted_bound}
use Rattle.labelling_laws.specs.BlockSteps.{block_at, column_vertex, Labelled, Inv, Choice, Setting, Holds}
use Rattle.labelling_laws.proofs.BlockSteps.{settled_few, choice, between, steps_hold}

-- ---- each step extracts one column

settle_extracts : (v l : ℕ) (a : Option RouteArc) (st : State) → extractions (settle v l a st) ≡ extractions st
unfolding settle settle_as extractions
settle_extracts v l a st = go (label_of v st.settled)
  where
    go : (x : Option ℕ) → extractions (settle_as x v l a st) ≡ extractions st
    go none = ap total (map_same (activate_vertex v l) (λ s. length s.trace.model.extracted) st.blocks (activate_extracted v l))
    go (some l') = refl

pub step_extracts : (i s : ℕ) (st : State) → chosen st ≡ by i s → extractions (extract_from (by i s) st) ≡ suc (extractions st)
unfolding extract_from chosen extractions
step_extracts i s st q =
    let top : Lowest (λ j. least_of (block_at st j)) 0 (length st.blocks) i s = rw q at (found_is (λ j. least_of (block_at st j)) 0 (length st.blocks)) in
    settle_extracts _ s _ _
    ∙ omega (
      arith,
      total_set (λ (b : BlockState). length b.trace.model.extracted) st.blocks i (apply (block_at st i) extraction) no_block_state (omega (arith, top.high)),
      extract_length (block_at st i) top.holder s top.here,
    )

pub start_extracts : (bs : List Block) (source : ℕ) → extractions (start bs source) ≡ 0
unfolding start extractions total fresh_block
start_extracts bs source = settle_extracts source 0 none (record { blocks = map fresh_block bs; settled = [] }) ∙ nothing bs
  where
    nothing : (xs : List Block) → total (map (λ s. length s.trace.model.extracted) (map fresh_block xs)) ≡ 0
    nothing [] = refl
    nothing (x ∷ xs) = omega (arith, nothing xs)

stops : (m : ℕ) (st : State) → chosen (steps m st) ≡ nobody → (j : ℕ) → steps (m + j) st ≡ steps m st
unfolding steps advance extract_from
stops m st q zero = rw add-zero
stops m st q (suc j) = let z : m + suc j ≡ suc (m + j) = omega arith in rw (z, stops m st q j, q)

-- a sum over the blocks of a state, bounded block by block
module _ (bs : List Block) (n source : ℕ) (st : State) (level : ℕ) (inv : Inv bs n source st level) where
  bounded : (f : BlockState → ℕ) (g : Block → ℕ) → ((s : BlockState) → Good n st.settled st.settled level s → f s ≤ g s.block) → total (map f st.blocks) ≤ total (map g bs)
  bounded f g h = rw (← inv.blocks_are) (rw map-map (total_le f (λ s. g s.block) st.blocks (every_imp _ _ st.blocks h inv.good)))

  extracted_few : extractions st ≤ columns bs
  unfolding extractions columns
  extracted_few = bounded (λ s. length s.trace.model.extracted) (λ b. length b.cols) (extracted_bound n st.settled st.settled level)

  inserted_few : insertions st ≤ total (map inserted_most bs)
  unfolding insertions
  inserted_few = bounded (λ s. s.trace.inserted) inserted_most (inserted_bound n st.settled st.settled level)

module _ (bs : List Block) (n source : ℕ) (given : Setting bs n source) where
  abbrev now : ℕ → State
  now m = steps m (start bs source)

  abbrev held : (m : ℕ) → Holds bs n source (now m)
  held = steps_hold bs n source given

  -- ---- it ends

  moves : (m : ℕ) → (chosen (now m) ≡ nobody) ⊎ (extractions (now m) ≡ m)
  unfolding steps advance extract_from
  moves zero = inr (start_extracts bs source)
  moves (suc m) = go (moves m) (chosen (now m)) refl
    where
      st : State
      st = steps m (start bs source)

      go : (chosen st ≡ nobody) ⊎ (extractions st ≡ m) → (x : Best) → chosen st ≡ x → (chosen (extract_from (chosen st) st) ≡ nobody) ⊎ (extractions (extract_from (chosen st) st) ≡ suc m)
      go h nobody q = inl (rw q q)
      go (inl z) (by i s) q = let z : ◌≡◌ {A = ℕ} 0 1 = cc in absurd (omega arith)
      go (inr l) (by i s) q = inr (rw q (step_extracts i s st q ∙ ap suc l))

  -- while a block has an interval, fewer steps have been made than there are columns
  pub goes : (m i s : ℕ) → chosen (steps m (start bs source)) ≡ by i s → m < columns bs
  unfolding steps advance
  goes m i s q = go (moves m) (held (suc m))
    where
      st : State
      st = steps m (start bs source)

      go : (chosen st ≡ nobody) ⊎ (extractions st ≡ m) → Holds bs n source (steps (suc m) (start bs source)) → m < columns bs
      go (inl z) h = let z : ◌≡◌ {A = ℕ} 0 1 = cc in absurd (omega arith)
      go (inr l) h =
          let t : extractions (extract_from (chosen st) st) ≡ suc (extractions st) = rw q (step_extracts i s st q) in
          omega (arith, extracted_few bs n source (extract_from (chosen st) st) h.level h.inv)

  pub ends : chosen (labelling bs source) ≡ nobody
  unfolding labelling
  ends = go (chosen (now (columns bs))) refl
    where
      go : (x : Best) → chosen (now (columns bs)) ≡ x → chosen (now (columns bs)) ≡ nobody
      go nobody q = q
      go (by i s) q = absurd (omega (arith, goes (columns bs) i s q))

  -- a loop that stops where no block has an interval has the labelling
  pub finished : (m : ℕ) → chosen (steps m (start bs source)) ≡ nobody → m ≤ columns bs → steps m (start bs source) ≡ labelling bs source
  unfolding labelling
  finished m q l = let z : columns bs ≡ m + (columns bs - m) = omega arith in sym (stops m (start bs source) q (columns bs - m)) ∙ rw (← z)

  -- ---- calls, labels, counts

  -- every call so far was done: none is refused, and no extraction finds nothing
  pub calls_done : (m : ℕ) → Every (λ s. Every (λ a. a.code ≡ 0) s.trace.answers) (steps m (start bs source)).blocks
  calls_done m = every_imp _ _ (now m).blocks (λ s g. g.fine.done) (held m).inv.good

  labelled_at : (m v l : ℕ) → label_of v (now m).settled ≡ some l → Labelled bs n source (held m).level (length (now m).settled) v l
  labelled_at m v l q = labelled v (Labelled bs n source (held m).level (length (now m).settled)) l (now m).settled (held m).inv.labels q

  pub reached_few : (m : ℕ) → reached (steps m (start bs source)) ≤ n
  unfolding reached
  reached_few m = let h = held m in settled_few bs n source h.level (length (now m).settled) (now m).settled h.inv.different h.inv.labels

  pub labels_short : (m v l : ℕ) → label_of v (steps m (start bs source)).settled ≡ some l → l ≤ max_label
  unfolding reached
  labels_short m v l q = omega (arith, given.small, reached_few m, (labelled_at m v l q).short)

  pub labels_in : (m v l : ℕ) → label_of v (steps m (start bs source)).settled ≡ some l → (1 ≤ v) × (v ≤ n)
  labels_in m v l q = let h = labelled_at m v l q in (h.low, h.high)

  pub vertices_in : (m : ℕ) → Every (λ x. (1 ≤ x.vertex) × (x.vertex ≤ n)) (steps m (start bs source)).settled
  vertices_in m = every_imp _ _ (now m).settled (λ x l. (l.low, l.high)) (held m).inv.labels

  pub vertices_differ : (m : ℕ) → Different (map (λ x. x.vertex) (steps m (start bs source)).settled)
  vertices_differ m = (held m).inv.different

  pub extractions_bound : (m : ℕ) → extractions (steps m (start bs source)) ≤ columns bs
  extractions_bound m = let h = held m in extracted_few bs n source (now m) h.level h.inv

  pub insertions_bound : (m : ℕ) → insertions (steps m (start bs source)) ≤ total (map inserted_most bs)
  insertions_bound m = let h = held m in inserted_few bs n source (now m) h.level h.inv

  -- ---- for a program: no activation is refused, at the start and between the extraction and the activations of a step

  pub welcome_start : Every (Welcome source 0) (map fresh_block bs)
  unfolding fresh_block
  welcome_start = every_map (Fit n) (Welcome source 0) fresh_block bs
      (λ b f. welcome n [] [] 0 source (unfold label_of in refl) (omega arith) (fresh_block b) (record { fit = f; fine = fresh_fine b })) given.fits

  pub welcome_step : (m i s c : ℕ) → let st = steps m (start bs source) in let v = column_vertex (block_at st i) c in
      chosen st ≡ by i s → least_of (block_at st i) ≡ by c s → label_of v st.settled ≡ none
      → Every (Welcome v s) (set st.blocks i (apply (block_at st i) extraction))
  unfolding steps advance extract_from settle settle_as place_in
  welcome_step m i s c q here h =
      let held = steps_hold bs n source given m in
      let ch : Choice bs n source given.small st held.level i s = choice bs n source given.small st held.level i s held.inv q in
      let z : column_vertex (block_at st i) ch.col ≡ v =
      let same : by ch.col s ≡ by c s = sym ch.here ∙ here in
      let y : ch.col ≡ c = cc in rw y in
      let top : s ≤ max_label = labels_short (suc m) v s (rw (q, here, h) (label_new v (settled_at v s _) st.settled refl h)) in
      every_imp _ _ (set st.blocks i (apply (block_at st i) extraction)) (λ b good. welcome n st.settled _ s v h top b good)
      (between bs n source given.small st held.level i s held.inv ch v none z h)
    where
      st : State
      st = steps m (start bs source)

      v : ℕ
      v = column_vertex (block_at st i) c
