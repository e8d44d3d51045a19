-- What one call inserts, after any list of calls: one of the main theorems that `HeapTheorems` gathers.
--   activation_inserts_lem   at most three more intervals than there are closed columns
use Rattle.std.specs.Prelude.{List, [], ◌∷◌, ◌++◌, ℕ, ◌+◌, ◌≤◌}
use Rattle.std.proofs.Common.{arith}
use Rattle.definitions.specs.Network.{Rectangle}
use Rattle.definitions.specs.Monge.{Monge, closed}
use Rattle.definitions.specs.Model.{Model, Call, Trace, extend, trace}
use Rattle.heap_laws.proofs.Sound.{trace_sound}
use Rattle.heap_laws.proofs.ModelCalls.{trace_snoc}
use Rattle.heap_laws.proofs.TraceCounts as traces

module _ (e : Rectangle) (rows cols : ℕ) (ks : List Call) where
  -- what the calls leave: the trace and its model; and the trace with one call more
  abbrev done : Trace
  done = trace e rows cols ks

  abbrev model : Model
  model = done.model

  abbrev more : Call → Trace
  more k = trace e rows cols (ks ++ k ∷ [])

  -- An activation, and so any call, inserts at most three more than there are closed columns: its own intervals, one more than closed
  -- columns between them, and the rests of those at the two ends of the range won.
  pub activation_inserts_lem : Monge e rows cols → (k : Call) → (more k).inserted ≤ done.inserted + (3 + closed e rows cols)
  unfolding extend
  activation_inserts_lem ok k = rw trace_snoc (omega (arith, traces.step_new e rows cols ok model k (trace_sound e rows cols ks)))
