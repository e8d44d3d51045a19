-- A list of calls with its answers, one for each call: what demand 3 says of all of them.
--   Answered answered                   the answers of some calls more, from any trace on
--   trace_each trace_allowed trace_extractions     from the fresh model on
use Rattle.std.specs.Prelude.{◌≡◌, refl, length}
use Rattle.std.proofs.Math.Path.{sym, ap}
use Rattle.std.proofs.Common.{◌∙◌, arith}
use mathlib.Core.List.{List, [], ◌∷◌, ◌++◌, append-nil, append_assoc}
use Prim.Native.Nat.{ℕ, suc, ◌+◌, ◌≤◌}
use Rattle.definitions.specs.Network.{Rectangle}
use Rattle.definitions.specs.Monge.{Monge, closed}
use Rattle.definitions.specs.Model.{fresh, Call, Answer, step, Trace, fresh_trace, extend, trace_from, trace, AllExtractLeast, allowances}
use Rattle.heap_laws.specs.Sound.{Sound}
use Rattle.heap_laws.proofs.Sound.{fresh_sound, extend_sound}
use Rattle.heap_laws.proofs.Extract.{extracts_least}
use Rattle.heap_laws.proofs.TraceCounts.{step_allowed}

module _ (e : Rectangle) (rows cols : ℕ) where
  record Answered (t : Trace) (ks : List Call) : Type 0 where
    answers : List Answer
    each : length answers ≡ length ks
    added : (trace_from e rows cols t ks).answers ≡ t.answers ++ answers
    allowed : Monge e rows cols → (trace_from e rows cols t ks).inserted ≤ t.inserted + allowances (closed e rows cols) ks answers
    least : AllExtractLeast e rows cols t.model ks answers

  answered : (t : Trace) (ks : List Call) → Sound e rows cols t.model → Answered t ks
  unfolding trace_from extend allowances
  answered t [] g = record { answers = []; each = refl; added = sym (append-nil t.answers); allowed = λ ok. omega arith; least = tt }
  answered t (k ∷ ks) g =
      let x = answered (extend e rows cols t k) ks (extend_sound e rows cols t k g) in
      let a = (step e rows cols t.model k).answer in
      record {
        answers = a ∷ x.answers;
        each = ap suc x.each;
        added = x.added ∙ append_assoc t.answers (a ∷ []) x.answers;
        allowed = λ ok. omega (arith, x.allowed ok, step_allowed e rows cols ok t.model k g);
        least = (λ q. extracts_least e rows cols t.model k q, x.least);
      }

  module _ (ks : List Call) where
    all : Answered fresh_trace ks
    all = answered fresh_trace ks (fresh_sound e rows cols)

    -- one answer for each call
    pub trace_each : length (trace e rows cols ks).answers ≡ length ks
    unfolding trace
    trace_each = rw all.added all.each

    -- all calls insert within their allowances
    pub trace_allowed : Monge e rows cols → (trace e rows cols ks).inserted ≤ allowances (closed e rows cols) ks (trace e rows cols ks).answers
    unfolding trace
    trace_allowed ok = rw all.added (omega (arith, all.allowed ok))

    -- each extraction answers the least that is left where its turn comes
    pub trace_extractions : AllExtractLeast e rows cols fresh ks (trace e rows cols ks).answers
    unfolding trace
    trace_extractions = rw all.added all.least
