-- The entry of a route: its judgement, and what it returns and leaves.
--   route_judged             the judgement is that of the labelling, then that of the target
--   label_number             the number that the labelling returns is the cause that it found
--   refused_size refused_early refused_target    a refusal
--   can_write routed plain   an accepted network and target
use Rattle.std.specs.Prelude.{◌≡◌, List, [], ◌∷◌, ◌≢◌, ℕ, length}
use Rattle.std.proofs.Math.Path.{sym, ap}
use Rattle.std.proofs.Common.{◌∙◌, arith}
use borrow.Author.Tests.{eq-eqb, ne_eqb}
use Rattle.definitions.specs.Limits.{label_places, route_places}
use Rattle.definitions.specs.Lists.{first_cause}
use Rattle.definitions.specs.Judgement.{judge_target, pieces_of}
use Rattle.definitions.specs.Blocks.{blocks}
use Rattle.definitions.specs.Labelling.{labelling}
use Rattle.definitions.specs.Labelling as Labelling
use Rattle.definitions.specs.Entries.{has_places, AfterLabel, judge_labelling, label_answer, label_network, AfterRoute, judge_route, route_refusal, route_network}
use Rattle.definitions.specs.PlainPromises.{PlainRoute}
use Rattle.definitions.proofs.Laws.CauseLaws.{no_cause, target_in_lem}
use Rattle.definitions.specs.declared.LabelAnswer.{LabelAnswer}
use Rattle.definitions.specs.declared.RouteAnswer.{RouteAnswer}
use Rattle.logic.specs.Tests.{Equal, equal, differ, equality}
use Rattle.basics.specs.Buffers.{buffers_are}
use Rattle.labelling_laws.proofs.LentNetworks.{lent_accepted, lent_route}
use Rattle.labelling_laws.proofs.PieceBlocks.{setting}
use Rattle.engine.specs.Labeller.LabelEntry.{LabelArcsLeaves, labels_alone}
use Rattle.routes.specs.Following.{Kept}
use Rattle.routes.specs.Writing.{WriteRouteNeeds, WriteRouteLeaves}

-- four causes, then a fifth
four_then : (w x y z t : ℕ) → first_cause (w ∷ x ∷ y ∷ z ∷ t ∷ []) ≡ first_cause (first_cause (w ∷ x ∷ y ∷ z ∷ []) ∷ t ∷ [])
unfolding first_cause
four_then w x y z t = go (equality w 0) (equality x 0) (equality y 0) (equality z 0)
  where
    go : Equal w 0 → Equal x 0 → Equal y 0 → Equal z 0 → first_cause (w ∷ x ∷ y ∷ z ∷ t ∷ []) ≡ first_cause (first_cause (w ∷ x ∷ y ∷ z ∷ []) ∷ t ∷ [])
    go (differ a q) b c d = simp a
    go (equal a q) (differ b r) c d = simp (a, b)
    go (equal a q) (equal b r) (differ c s) d = simp (a, b, c)
    go (equal a q) (equal b r) (equal c s) (differ d u) = simp (a, b, c, d)
    go (equal a q) (equal b r) (equal c s) (equal d u) = simp (a, b, c, d)

module _ (n p : ℕ) (sizes vertices lengths : List ℕ) (source target : ℕ) (buffer : List ℕ) where
  abbrev cause : ℕ
  cause = judge_route n p sizes vertices lengths source target buffer

  refused_by_lem : (k : ℕ) → k ≡ cause → k ≢ 0 → record { answer = route_refusal k; arcs = buffer } ≡ route_network n p sizes vertices lengths source target buffer
  unfolding route_network
  refused_by_lem k e h = let q : cause ≢ 0 = λ z. h (e ∙ z) in rw (ne_eqb cause 0 q, e)

  pub refused_size : length buffer ≢ route_places → record { answer = route_refusal 1; arcs = buffer } ≡ route_network n p sizes vertices lengths source target buffer
  unfolding judge_route has_places first_cause
  refused_size h = let e : 1 ≡ cause = sym (simp (ne_eqb (length buffer) route_places h)) in refused_by_lem 1 e (omega arith)

  pub plain : (r : RouteAnswer) (after : List ℕ) → record { answer = r; arcs = after } ≡ route_network n p sizes vertices lengths source target buffer → r.number ≡ 0
      → PlainRoute p sizes vertices lengths source target r after
  plain r after e done =
      let a : r ≡ (route_network n p sizes vertices lengths source target buffer).answer = ap (λ (x : AfterRoute). x.answer) e in
      let b : after ≡ (route_network n p sizes vertices lengths source target buffer).arcs = ap (λ (x : AfterRoute). x.arcs) e in
      rw (a, b) (lent_route n p sizes vertices lengths source target buffer (sym (ap (λ (x : RouteAnswer). x.number) a) ∙ done))

  -- the buffer has its size, and the labelling was lent buffers of theirs
  module _ (full : length buffer ≡ route_places) {labels₀ labels words₀ words : List ℕ} (l : length labels₀ ≡ label_places) (w : length words₀ ≡ label_places)
      {r : LabelAnswer} (done : LabelArcsLeaves n p sizes vertices lengths source labels₀ labels words₀ words r) where
    abbrev early : ℕ
    early = judge_labelling n p sizes vertices lengths source labels₀

    route_judged : cause ≡ first_cause (early ∷ judge_target n target ∷ [])
    unfolding judge_route judge_labelling has_places
    route_judged = simp (eq-eqb (length buffer) route_places full, eq-eqb (length labels₀) label_places l) (four_then 0 _ _ _ _)

    alone : record { answer = r; labels = labels } ≡ label_network n p sizes vertices lengths source labels₀
    alone = labels_alone n p sizes vertices lengths source labels₀ words₀ w labels words r done

    label_number : r.number ≡ early
    unfolding label_network label_answer
    label_number = go (equality early 0)
      where
        go : Equal early 0 → r.number ≡ early
        go (equal t q) = ap (λ (x : AfterLabel). x.answer.number) (rw t at alone) ∙ sym q
        go (differ t q) = ap (λ (x : AfterLabel). x.answer.number) (rw t at alone)

    pub refused_early : r.number ≢ 0 → record { answer = route_refusal r.number; arcs = buffer } ≡ route_network n p sizes vertices lengths source target buffer
    unfolding first_cause
    refused_early h =
        let t : early ≢ 0 = λ z. h (label_number ∙ z) in
        refused_by_lem r.number (label_number ∙ sym (route_judged ∙ simp (ne_eqb early 0 t))) h

    module _ (ok : r.number ≡ 0) where
      passed : early ≡ 0
      passed = sym label_number ∙ ok

      late : cause ≡ first_cause (judge_target n target ∷ [])
      unfolding first_cause
      late = route_judged ∙ simp (eq-eqb early 0 passed)

      pub refused_target : (k : ℕ) → k ≡ judge_target n target → k ≢ 0 → record { answer = route_refusal k; arcs = buffer } ≡ route_network n p sizes vertices lengths source target buffer
      unfolding first_cause
      refused_target k e h =
          let t : judge_target n target ≢ 0 = λ z. h (e ∙ z) in
          refused_by_lem k (e ∙ sym (late ∙ simp (ne_eqb (judge_target n target) 0 t))) h

      module _ (inside : judge_target n target ≡ 0) where
        labels_are : labels ≡ Labelling.labels (labelling (blocks (pieces_of p sizes vertices lengths)) source)
        unfolding label_network
        labels_are = ap (λ (x : AfterLabel). x.labels) (rw (eq-eqb early 0 passed) at alone)

        kept : Kept vertices lengths words source n (pieces_of p sizes vertices lengths)
        unfolding judge_labelling
        kept =
            let causes = no_cause _ passed in
            let three = buffers_are (length sizes) (length vertices) (length lengths) causes.1.0 in
            record {
              accepted = lent_accepted n p sizes vertices lengths source labels₀ passed;
              vertices_long = three.1;
              lengths_long = three.2;
              held = done.held ok;
            }

        pub can_write : WriteRouteNeeds vertices lengths source target labels words buffer
        can_write =
            let t = target_in_lem n target inside in
            record {
              n = n;
              pieces = pieces_of p sizes vertices lengths;
              kept = kept;
              shows = labels_are;
              low = t.0;
              high = omega (arith, t.1, (setting n (pieces_of p sizes vertices lengths) source kept.accepted).small);
              long = full;
            }

        pub routed : (a : RouteAnswer) (after : List ℕ) → WriteRouteLeaves vertices lengths source target labels words after a
            → record { answer = a; arcs = after } ≡ route_network n p sizes vertices lengths source target buffer
        unfolding route_network first_cause
        routed a after wrote =
            let x = wrote n (pieces_of p sizes vertices lengths) kept labels_are in
            let z : cause ≡ 0 = late ∙ simp (eq-eqb (judge_target n target) 0 inside) in
            rw (eq-eqb cause 0 z, x.0, x.1)
