-- Laws of the calls of a session one after the other: what a chain of them leaves is what `demand3` says.
--   kept_none kept_lent kept_more kept_agrees kept_small   of the chain of the first k calls
--   claimed                       what `demand3` says of it
--   ran                           what is left after all of them
use Rattle.std.specs.Prelude.{◌≡◌, refl, ℕ, ◌+◌, ◌*◌, ◌≤◌, length}
use Rattle.std.proofs.Common.{◌∙◌, arith}
use mathlib.Core.List.{List, [], ◌∷◌, ◌++◌, map-append, flat_map}
use Rattle.std.proofs.lemmas.List.Edits.{sets}
use Rattle.definitions.specs.Limits.{answer_size}
use Rattle.definitions.specs.Lists.{total, up_from}
use Rattle.definitions.specs.Entries.{call_at, calls_of, answer_numbers}
use Rattle.definitions.specs.CallChains.{SessionHolds, answer_in, Promised, Fresh, trace_of, Agrees, Ran, Exchange, start, then, calls_made, answers_made, Follows}
use Rattle.basics.specs.Buffers.{flat_map_snoc}
use Rattle.definitions.specs.declared.Called.{Called}
use Rattle.engine.specs.Session.Fronts.{front_none, front_next}
use Rattle.engine.specs.Session.Demand3.{sum_snoc, demand3, chain_keeps, most_inserted, agrees_small}
use Rattle.engine.specs.Session.SessionChain.{calls_of_more, length_calls_of, RunCallsKeeps}

module _ (rows : List (List ℕ)) (cols : ℕ) (calls before : List ℕ) where
  pub kept_none : (heap labels : List ℕ) → Fresh rows cols heap labels → RunCallsKeeps rows cols calls before 0 heap labels before 0 0 0
  unfolding calls_of up_from flat_map total
  kept_none heap labels f = record { made = []; chain = start f refl; calls_are = refl; inserted_is = refl; removed_is = refl; front = front_none answer_size before }

  module _ (k : ℕ) (heap labels answers : List ℕ) (floor inserted removed : ℕ) (g : RunCallsKeeps rows cols calls before k heap labels answers floor inserted removed) where
    -- what the next call is lent
    pub kept_lent : SessionHolds rows cols heap labels floor (trace_of rows cols (calls_made g.made)).model
    kept_lent = chain_keeps rows cols g.chain

    -- what demand 3 claims of the chain
    pub claimed : Follows rows cols g.made (record { heap = heap; labels = labels; floor = floor })
    claimed = demand3 rows cols g.chain

    pub kept_agrees : Agrees rows cols (calls_of calls k) heap labels inserted removed
    kept_agrees = rw (← g.calls_are, g.inserted_is, g.removed_is) claimed.agrees

    -- one call more
    module _ (u v : List ℕ) (r : Called) (p : Promised rows cols heap labels floor (call_at calls k) u v r) where
      abbrev next : Exchange
      next = record { call = call_at calls k; called = r }

      pub kept_more : answer_size * k + answer_size ≤ length before
          → RunCallsKeeps rows cols calls before (k + 1) u v (sets answers (answer_size * k) (r.code ∷ r.column ∷ r.sum ∷ [])) r.floor (inserted + r.inserted) (removed + r.removed)
      kept_more h = record {
        made = g.made ++ next ∷ [];
        chain = then next g.chain p refl;
        calls_are = rw calls_of_more (map-append (λ (x : Exchange). x.call) g.made (next ∷ []) ∙ rw g.calls_are);
        inserted_is = omega (arith, g.inserted_is, sum_snoc (λ x. x.called.inserted) g.made next);
        removed_is = omega (arith, g.removed_is, sum_snoc (λ x. x.called.removed) g.made next);
        front =
            rw (map-append (λ (x : Exchange). answer_in x.called) g.made (next ∷ []), flat_map_snoc answer_numbers (answers_made g.made) (answer_in r))
            (front_next answer_size k before (flat_map answer_numbers (answers_made g.made)) answers (answer_numbers (answer_in r)) refl g.front h);
      }

-- after k calls the counts are small
pub kept_small : (rows : List (List ℕ)) (cols : ℕ) (calls before : List ℕ) (k : ℕ) (heap labels answers : List ℕ) (floor inserted removed : ℕ)
    → RunCallsKeeps rows cols calls before k heap labels answers floor inserted removed → (inserted ≤ most_inserted) × (removed ≤ most_inserted)
kept_small rows cols calls before k heap labels answers floor inserted removed g =
    agrees_small rows cols (calls_of calls k) heap labels inserted removed (kept_agrees rows cols calls before k heap labels answers floor inserted removed g)

pub ran : (rows : List (List ℕ)) (cols : ℕ) (calls before : List ℕ) (count k : ℕ) (heap labels answers : List ℕ) (floor inserted removed : ℕ) → k ≡ count
    → RunCallsKeeps rows cols calls before k heap labels answers floor inserted removed → Ran rows cols (calls_of calls count) heap labels before answers inserted removed
ran rows cols calls before count k heap labels answers floor inserted removed q d =
    let g : RunCallsKeeps rows cols calls before count heap labels answers floor inserted removed = rw (← q) d in
    record {
      agrees = kept_agrees rows cols calls before count heap labels answers floor inserted removed g;
      answers_are = rw (length_calls_of calls count, ← g.calls_are, ← (claimed rows cols calls before count heap labels answers floor inserted removed g).answers_are) g.front.is;
    }
