-- All blocks: what holds after any number of steps of the labelling of a list of blocks.
--   block_at_lem         a block of a state
--   settled_few          at most n vertices are settled
--   choice between       what the chosen block says, and the arc into its column; the blocks between its extraction and the activations
--   steps_hold           the invariant holds after every step
-- `level` is the last sum handed out, at first 0.
use Rattle.std.proofs.Math.Path.{◌≡◌, refl}
use Rattle.std.proofs.Common.{◌∙◌, eq-eqb, ne_eqb}
use Rattle.std.proofs.Math.Option.{Option, none, some}
use Rattle.std.specs.Prelude.{false, ◌≢◌, get_or, set}
use mathlib.Core.List.{List, [], ◌∷◌, ◌++◌, map}
use Prim.Native.Nat.{ℕ, zero, suc, ◌≤◌, ◌<◌}
use Rattle.std.proofs.Math.Nat.{le_refl}
use native.Mathlib.Omega.{arith}
use Rattle.std.proofs.Math.ListN.{length, length-append, length-map, get_or-map}
use Rattle.std.proofs.Math.Seq.{map-set_same}
use Rattle.definitions.specs.Limits.{max_vertices, max_label, sum}
use Rattle.definitions.specs.Metres.{IsNumber}
use Rattle.definitions.specs.Lists.{mem, Every}
use Rattle.definitions.specs.Network.{Rectangle, stay, then, RouteArc}
use Rattle.definitions.specs.Blocks.{Block, no_block}
use Rattle.definitions.specs.Best.{Best, nobody, by, least, least_from, Lowest}
use Rattle.definitions.proofs.Laws.LeastLaws.{Found, found_is}
use Rattle.definitions.specs.Model.{Model, parent, available}
use Rattle.definitions.specs.Labelling.{BlockState, extraction, fresh_block, apply, least_of, activate_vertex, Settled, settled_at, State, label_of, settle_as, settle, no_block_state, chosen, place_in, arc_at, arc_into, extract_from, advance, steps, start}
use Rattle.definitions.proofs.Laws.Members.{every_imp}
use Rattle.basics.specs.ListLaws.{every_at, every_set, every_snoc, every_map, every_all, map_same, map_back, Different, different_snoc, at_most}
use Rattle.heap_laws.specs.Lesser.{From}
use Rattle.heap_laws.proofs.Lesser.{from_each}
use Rattle.heap_laws.proofs.Parents.{available_parent, parent_row, parent_path, parent_activated, parent_sum}
use Rattle.heap_laws.specs.Parents.{row_label}
use Rattle.labelling_laws.proofs.Labels.{label_old, label_new, status, labelled, unlabelled, own_labels}
use Rattle.labelling_laws.specs.Labels.{Status, settled, unsettled}
use Rattle.labelling_laws.proofs.Activated.{row_settled}
use Rattle.labelling_laws.specs.Walks.{BlockArc}
use Rattle.labelling_laws.specs.OneBlock.{Fit, Good}
use Rattle.labelling_laws.proofs.OneBlock.{fresh_fine, later, activate_good, extract_good, activate_block}
use Rattle.labelling_laws.specs.BlockSteps.{block_at, column_vertex, Labelled, Inv, Choice, Holds, Setting}

-- a bound of the least sum bounds every sum
from_least : (s : ℕ) (w : ℕ → Best) (n c : ℕ) → c < n → From s (least_from w 0 n) → From s (w c)
from_least s w n c l h = go (least_from w 0 n) (found_is w 0 n) h
  where
    go : (x : Best) → Found w 0 n x → From s x → From s (w c)
    go nobody f h = rw (f c (omega arith) (omega arith)) tt
    go (by k t) f h = from_each s (w c) (λ p u r. omega (arith, f.no_less c p u (omega arith) (omega arith) r))

module _ (bs : List Block) (n source : ℕ) where
  grow : (level level' count count' : ℕ) → level ≤ level' → count ≤ count' → (v l : ℕ) → Labelled bs n source level count v l → Labelled bs n source level' count' v l
  grow level level' count count' a b v l h = record { low = h.low; high = h.high; near = omega arith; walk = h.walk; short = omega arith }

  -- ---- at most n vertices are settled

  no_zero : (level count : ℕ) (xs : List Settled) → Every (λ x. Labelled bs n source level count x.vertex x.label) xs → mem 0 (map (λ x. x.vertex) xs) ≡ false
  unfolding mem
  no_zero level count [] h = refl
  no_zero level count (x ∷ xs) h =
      let q : 0 ≢ x.vertex = omega (arith, h.0.low) in
      simp (ne_eqb 0 x.vertex q) (no_zero level count xs h.1)

  pub settled_few : (level count : ℕ) (xs : List Settled) → Different (map (λ x. x.vertex) xs) → Every (λ x. Labelled bs n source level count x.vertex x.label) xs → length xs ≤ n
  settled_few level count xs d h =
      let m : length (map (λ x. x.vertex) xs) ≡ length xs = simp length-map in
      omega (
        arith,
        at_most (suc n) (0 ∷ map (λ x. x.vertex) xs) (no_zero level count xs h, d)
            (omega arith, every_map (λ x. Labelled bs n source level count x.vertex x.label) (λ v. v < suc n) (λ x. x.vertex) xs (λ x f. omega (arith, f.high)) h),
      )

  map_snoc : (xs : List Settled) (x : Settled) → map (λ x. x.vertex) (xs ++ x ∷ []) ≡ map (λ x. x.vertex) xs ++ x.vertex ∷ []
  map_snoc [] x = refl
  map_snoc (y ∷ xs) x = rw (map_snoc xs x)

  -- block i of the list is that of the state
  pub block_at_lem : (st : State) (i : ℕ) → map (λ s. s.block) st.blocks ≡ bs → get_or bs i no_block ≡ (block_at st i).block
  block_at_lem st i q = rw (← q) (get_or-map (λ (s : BlockState). s.block) st.blocks i no_block_state)

  module _ (small : n ≤ max_vertices) where
    -- a vertex that is not yet settled is settled, and activated
    settle_inv : (st : State) (v l : ℕ) (a : Option RouteArc) → label_of v st.settled ≡ none
        → map (λ s. s.block) st.blocks ≡ bs
        → Every (Good n st.settled (st.settled ++ settled_at v l a ∷ []) l) st.blocks
        → Every (λ x. Labelled bs n source l (length st.settled) x.vertex x.label) st.settled
        → Different (map (λ x. x.vertex) st.settled)
        → Labelled bs n source l (suc (length st.settled)) v l
        → Inv bs n source (settle_as none v l a st) l
    unfolding settle_as
    settle_inv st v l a no_label same good ls diff one =
        let old : List Settled = st.settled in
        let now : List Settled = old ++ settled_at v l a ∷ [] in
        let count : length now ≡ suc (length old) = simp length-append (omega arith) in
        let all : Every (λ x. Labelled bs n source l (length now) x.vertex x.label) now = rw count (every_snoc (λ x. Labelled bs n source l (suc (length old)) x.vertex x.label) old _
        (every_imp _ _ old (λ x h. grow l l (length old) (suc (length old)) (le_refl l) (omega arith) x.vertex x.label h) ls) one) in
        let vertices : Different (map (λ x. x.vertex) now) = rw (map_snoc old (settled_at v l a))
        (different_snoc (map (λ x. x.vertex) old) v diff (unlabelled v old no_label)) in
        let top : l ≤ max_label = omega (arith, one.short, settled_few l (length now) now vertices all) in
        record {
          blocks_are = map_same (activate_vertex v l) (λ s. s.block) st.blocks (activate_block v l) ∙ same;
          good = every_map (Good n old now l) (Good n now now l) (activate_vertex v l) st.blocks (activate_good n old now l v a no_label top) good;
          labels = all;
          different = vertices;
        }

    pub choice : (st : State) (level i s : ℕ) → Inv bs n source st level → chosen st ≡ by i s → Choice bs n source small st level i s
    unfolding chosen least_of arc_at arc_into place_in
    choice st level i s inv q =
        let top : Lowest (λ j. least_of (block_at st j)) 0 (length st.blocks) i s = rw q at (found_is (λ j. least_of (block_at st j)) 0 (length st.blocks)) in
        let here : BlockState = block_at st i in
        let c : ℕ = top.holder in
        let e : Rectangle = here.block.lengths in
        let m : Model = here.trace.model in
        let low : Lowest (available e m) 0 (length here.block.cols) c s = rw top.here at (found_is (available e m) 0 (length here.block.cols)) in
        let col_in_lem : c < length here.block.cols = omega (arith, low.high) in
        let good : Good n st.settled st.settled level here = every_at _ st.blocks inv.good i no_block_state (omega (arith, top.high)) in
        let p : ℕ = low.holder in
        let own : parent e m.activated c ≡ by p s = available_parent e m c p s low.here in
        let row_in_lem : p < length here.block.rows = parent_row e (length here.block.rows) m.activated c p s good.fine.sound.in_rows own in
        let from_is : label_of (get_or here.block.rows p 0) st.settled ≡ some (row_label p m.activated)
        = rw good.fine.rows_are (row_settled (λ v l. label_of v st.settled ≡ some l) here.block.rows p st.settled (own_labels st.settled inv.different)
        (rw (← good.fine.rows_are) (parent_activated e m.activated c p s own))) in
        let from : Labelled bs n source level (length st.settled) (get_or here.block.rows p 0) (row_label p m.activated)
        = labelled (get_or here.block.rows p 0) (Labelled bs n source level (length st.settled)) (row_label p m.activated) st.settled inv.labels from_is in
        let is : s ≡ sum (row_label p m.activated) (e p c) = parent_sum e m.activated c p s good.fine.sound.once own in
        let path : IsNumber (e p c) = parent_path e m.activated c p s own in
        let arc : BlockArc bs (get_or here.block.rows p 0) (column_vertex here c) (e p c) = record {
          number = i;
          number_in = rw (← inv.blocks_are) (simp length-map (omega (arith, top.high)));
          arc = rw (block_at_lem st i inv.blocks_are) (record { row = p; col = c; row_in_lem = row_in_lem; col_in_lem = col_in_lem; tail = refl; head = refl; length_is = refl; some_path = path });
        } in
        record {
          number_in = omega (arith, top.high);
          col = c;
          here = top.here;
          rises = rw low.here at (good.fine.ahead c col_in_lem);
          beyond = λ j l. from_each s (least_of (block_at st j)) (λ p t r. top.no_less j p t (omega arith) (omega arith) r);
          found = record {
            low = (good.fit.cols_in_lem c col_in_lem).0;
            high = (good.fit.cols_in_lem c col_in_lem).1;
            near = le_refl s;
            walk = rw is (then from.walk arc);
            short = omega (arith, from.short, is, good.fit.short p c row_in_lem col_in_lem path);
          };
          arrives = rw low.here (record {
            before = row_label p m.activated;
            from_is = from_is;
            to_is = refl;
            sum_is = is;
            is_arc = record { arc = arc; piece_is = rw (block_at_lem st i inv.blocks_are) };
          });
        }

    -- all sums have reached s, and more may be settled
    raised : (st : State) (level i s : ℕ) (now : List Settled) → Inv bs n source st level → Choice bs n source small st level i s
        → ((v l : ℕ) → label_of v st.settled ≡ some l → label_of v now ≡ some l) → Every (Good n st.settled now s) st.blocks
    unfolding least_of
    raised st level i s now inv ch mono = every_all (Good n st.settled now s) st.blocks no_block_state
        (λ j l. one (block_at st j) (ch.beyond j l) (every_at _ st.blocks inv.good j no_block_state l))
      where
        one : (b : BlockState) → From s (least_of b) → Good n st.settled st.settled level b → Good n st.settled now s b
        one b h g = record {
          fit = g.fit;
          fine = later b.block st.settled st.settled now level s b.trace ch.rises mono
              (λ c l. from_least s (available b.block.lengths b.trace.model) (length b.block.cols) c l h) g.fine;
        }

    unfoldable after : State → ℕ → State
    after st i = record { blocks = set st.blocks i (apply (block_at st i) extraction); settled = st.settled }

    same_blocks : (st : State) (i : ℕ) → map (λ s. s.block) (after st i).blocks ≡ map (λ s. s.block) st.blocks
    unfolding after apply
    same_blocks st i = map-set_same (λ (s : BlockState). s.block) st.blocks i (apply (block_at st i) extraction) no_block_state refl

    -- after the extraction and before the activations of a step
    pub between : (st : State) (level i s : ℕ) → Inv bs n source st level → (ch : Choice bs n source small st level i s) → (v : ℕ) (a : Option RouteArc) → column_vertex (block_at st i) ch.col ≡ v → label_of v st.settled ≡ none
        → Every (Good n st.settled (st.settled ++ settled_at v s a ∷ []) s) (set st.blocks i (apply (block_at st i) extraction))
    between st level i s inv ch v a z h =
        let now : List Settled = st.settled ++ settled_at v s a ∷ [] in
        let all : Every (Good n st.settled now s) st.blocks = raised st level i s now inv ch (λ v l h. label_old v st.settled _ l h) in
        every_set _ st.blocks i _ all (extract_good n st.settled now s (block_at st i) ch.col ch.here s (rw z (label_new v (settled_at v s a) st.settled refl h)) (le_refl s)
        (every_at _ st.blocks all i no_block_state ch.number_in))

    reach_inv : (st : State) (level i s : ℕ) → Inv bs n source st level → (ch : Choice bs n source small st level i s) → (v : ℕ) (a : Option RouteArc) → column_vertex (block_at st i) ch.col ≡ v → Status v st.settled
        → Inv bs n source (settle_as (label_of v st.settled) v s a (after st i)) s
    unfolding settle_as after
    reach_inv st level i s inv ch v a z (settled l h) =
        let old : Labelled bs n source level (length st.settled) v l = labelled v (Labelled bs n source level (length st.settled)) l st.settled inv.labels h in
        let all : Every (Good n st.settled st.settled s) st.blocks = raised st level i s st.settled inv ch (λ v l h. h) in
        rw h (record {
          blocks_are = same_blocks st i ∙ inv.blocks_are;
          good = every_set _ st.blocks i _ all (extract_good n st.settled st.settled s (block_at st i) ch.col ch.here l (rw z h) (omega (arith, old.near, ch.rises))
              (every_at _ st.blocks all i no_block_state ch.number_in));
          labels = every_imp _ _ st.settled (λ x f. grow level s (length st.settled) (length st.settled) ch.rises (le_refl _) x.vertex x.label f) inv.labels;
          different = inv.different;
        })
    reach_inv st level i s inv ch v a z (unsettled h) =
        rw h (settle_inv (after st i) v s a h (same_blocks st i ∙ inv.blocks_are) (between st level i s inv ch v a z h)
        (every_imp _ _ st.settled (λ x f. grow level s (length st.settled) (length st.settled) ch.rises (le_refl _) x.vertex x.label f) inv.labels)
        inv.different (rw z at ch.found))

    extract_inv : (st : State) (level i s : ℕ) → Inv bs n source st level → chosen st ≡ by i s → Inv bs n source (extract_from (by i s) st) s
    unfolding extract_from settle place_in after
    extract_inv st level i s inv q =
        let ch : Choice bs n source small st level i s = choice st level i s inv q in
        rw ch.here (reach_inv st level i s inv ch _ _ refl (status _ st.settled))

    -- ---- from the start on

    start_inv : Every (Fit n) bs → 1 ≤ source → source ≤ n → Inv bs n source (start bs source) 0
    unfolding start settle label_of fresh_block available parent least mem
    start_inv fits low high = settle_inv (record { blocks = map fresh_block bs; settled = [] }) source 0 none refl
        (map_back fresh_block (λ s. s.block) bs (λ b. refl))
        (every_map (Fit n) (Good n [] (settled_at source 0 none ∷ []) 0) fresh_block bs one fits)
        tt tt
        (record { low = low; high = high; near = le_refl 0; walk = stay; short = omega arith })
      where
        one : (b : Block) → Fit n b → Good n [] (settled_at source 0 none ∷ []) 0 (fresh_block b)
        one b f = record {
          fit = f;
          fine = later b [] [] (settled_at source 0 none ∷ []) 0 0 (fresh_block b).trace (le_refl 0)
              (λ v l h. let z : ◌≡◌ {A = ℕ} 0 1 = cc in absurd (omega arith)) (λ c l. tt) (fresh_fine b);
        }

  -- ---- a label stays

  keeps : (v l u w : ℕ) (a : Option RouteArc) (st : State) → label_of v st.settled ≡ some l → label_of v (settle u w a st).settled ≡ some l
  unfolding settle settle_as
  keeps v l u w a st q = go (label_of u st.settled)
    where
      go : (x : Option ℕ) → label_of v (settle_as x u w a st).settled ≡ some l
      go none = label_old v st.settled _ l q
      go (some l') = q

  keeps_extract : (v l : ℕ) (x : Best) (st : State) → label_of v st.settled ≡ some l → label_of v (extract_from x st).settled ≡ some l
  unfolding extract_from
  keeps_extract v l nobody st q = q
  keeps_extract v l (by i s) st q = keeps v l _ s _ _ q

  begun : (m : ℕ) → label_of source (steps m (start bs source)).settled ≡ some 0
  unfolding steps advance start
  begun zero = unfold settle label_of settle_as in simp (eq-eqb source source refl)
  begun (suc m) = keeps_extract source 0 (chosen (steps m (start bs source))) (steps m (start bs source)) (begun m)

  -- ---- after any number of steps

  pub steps_hold : Setting bs n source → (m : ℕ) → Holds bs n source (steps m (start bs source))
  unfolding steps advance
  steps_hold g zero = record { level = 0; inv = start_inv g.small g.fits g.low g.high; begins = begun zero }
  steps_hold g (suc m) = go (steps_hold g m) (chosen (steps m (start bs source))) refl
    where
      go : (h : Holds bs n source (steps m (start bs source))) (x : Best) → chosen (steps m (start bs source)) ≡ x → Holds bs n source (extract_from (chosen (steps m (start bs source))) (steps m (start bs source)))
      go h nobody q = rw q (unfold extract_from in h)
      go h (by i s) q = record { level = s; inv = rw q (extract_inv g.small (steps m (start bs source)) h.level i s h.inv q); begins = begun (suc m) }
