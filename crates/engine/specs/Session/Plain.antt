-- What an accepted session returns and leaves, in plain terms, from its equation with the definition.
use Rattle.std.specs.Prelude.{◌≡◌, refl, List, map, ℕ}
use Rattle.std.proofs.Common.{sym, ◌∙◌}
use Rattle.std.proofs.Math.Path.{ap}
use Rattle.definitions.specs.PlainPromises.{PlainSession}
use Rattle.definitions.specs.declared.SessionAnswer.{SessionAnswer}
use Rattle.definitions.specs.Lists.{padded}
use Rattle.definitions.specs.Model.{Model, intervals, with_best, HasBest, Call, trace}
use Rattle.definitions.proofs.Model.{first_columns_rise, in_order_already, each_has_best}
use Rattle.definitions.specs.Entries.{AfterSession, rectangle_of, judge_session, calls_of, answers_of, answers_in, intervals_of, session}
use Rattle.basics.specs.ListLaws.{every_map, map_back}
use Rattle.logic.specs.Tests.{Equal, equal, differ, equality}
use Rattle.heap_laws.proofs.AllCalls.{trace_each, trace_allowed, trace_extractions}
use Rattle.heap_laws.proofs.HeapTheorems.{intervals_once, inserted_removed_kept}
use Rattle.engine.specs.Session.Judged.{accepted}
use Rattle.engine.specs.Session.Fronts.{answers_back}
use Rattle.engine.specs.Session.SessionChain.{length_calls_of}

module _ (rows cols count : ℕ) (lengths calls answers₀ intervals₀ : List ℕ) where
  abbrev ks : List Call
  ks = calls_of calls count

  abbrev model : Model
  model = (trace (rectangle_of lengths) rows cols ks).model

  -- the answers stand in the buffer
  answers_are : answers_in (answers_of (trace (rectangle_of lengths) rows cols ks).answers) count ≡ (trace (rectangle_of lengths) rows cols ks).answers
  unfolding answers_of padded
  answers_are =
      let n = trace_each (rectangle_of lengths) rows cols ks ∙ length_calls_of calls count in
      ap (answers_in (answers_of (trace (rectangle_of lengths) rows cols ks).answers)) (sym n) ∙ answers_back (trace (rectangle_of lengths) rows cols ks).answers _

  pub plain_session : (r : SessionAnswer) (answers after : List ℕ) → record { answer = r; answers = answers; intervals = after } ≡ session rows cols count lengths calls answers₀ intervals₀
      → r.number ≡ 0 → PlainSession rows cols count lengths calls r answers after
  unfolding session
  plain_session r answers after e done = go (equality (judge_session rows cols count lengths calls answers₀ intervals₀) 0)
    where
      go : Equal (judge_session rows cols count lengths calls answers₀ intervals₀) 0 → PlainSession rows cols count lengths calls r answers after
      go (differ t q) = absurd (q (sym (ap (λ (x : AfterSession). x.answer.number) (rw t at e)) ∙ done))
      go (equal t q) =
          let g = accepted rows cols count lengths calls answers₀ intervals₀ (sym q) in
          let a = ap (λ (x : AfterSession). x.answer) (rw t at e) in
          let s : answers_in answers count ≡ (trace (rectangle_of lengths) rows cols ks).answers = rw (ap (λ (x : AfterSession). x.answers) (rw t at e)) answers_are in
          record {
            listed = _;
            kept = _;
            written = ap (λ (x : AfterSession). x.intervals) (rw t at e) ∙ ap (λ vs. intervals_of (map (with_best (rectangle_of lengths) model) vs)) (in_order_already (rectangle_of lengths) cols model);
            each_listed = map_back (with_best (rectangle_of lengths) model) (λ u. u.interval) (intervals (rectangle_of lengths) cols model) (λ v. refl);
            kept_are = refl;
            bests = every_map (λ v. HasBest (rectangle_of lengths) model (with_best (rectangle_of lengths) model v)) (HasBest (rectangle_of lengths) model)
                (with_best (rectangle_of lengths) model) (intervals (rectangle_of lengths) cols model) (λ v h. h) (each_has_best (rectangle_of lengths) cols model);
            firsts_rise = first_columns_rise (rectangle_of lengths) cols model;
            once = (intervals_once (rectangle_of lengths) rows cols ks).1;
            rising = (intervals_once (rectangle_of lengths) rows cols ks).0;
            balanced = rw a (inserted_removed_kept (rectangle_of lengths) rows cols ks);
            few = rw (a, s) (trace_allowed (rectangle_of lengths) rows cols ks g.monge);
            least = rw s (trace_extractions (rectangle_of lengths) rows cols ks);
          }
