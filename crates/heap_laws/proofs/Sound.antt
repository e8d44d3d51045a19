-- M5: what holds of every model that calls reach.
--   fresh_sound activate_sound extract_sound   it holds at first; an activation and an extraction keep it
--   extracted_lost won_open won_available   a new row wins no extracted column
--   step_sound extend_sound trace_sound   every call keeps it, so it holds after any list of calls
--   step_floor                         the floor never falls
--   reached-..                         so it holds of every model that calls reach
--   activated_few extracted_few        at most as many as rows, as columns
use Rattle.std.specs.Prelude.{◌≡◌, refl, true, false, cond, ◌||◌, eqb, length}
use Rattle.std.proofs.Common.{◌∙◌, arith, eqb-true}
use mathlib.Core.List.{List, [], ◌∷◌, ◌++◌, map}
use Prim.Native.Nat.{ℕ, ◌≤◌, ◌<◌}
use Rattle.std.proofs.Math.Nat.{le_refl}
use Rattle.std.proofs.lemmas.List.{length-map}
use Rattle.definitions.specs.Limits.{max_label, sum, no_path}
use Rattle.definitions.specs.Lists.{mem, Every}
use Rattle.definitions.specs.Network.{Rectangle}
use Rattle.definitions.specs.Best.{Best, nobody, by, lesser, least, least_from}
use Rattle.definitions.proofs.Laws.LeastLaws.{Found, found_is}
use Rattle.definitions.specs.Model.{Activation, Model, fresh, through, parent, available, is_activated, Call, activate, extract, step, Trace, extend, trace_from, trace, Reached}
use Rattle.logic.specs.Tests.{clash, or_left, Truth, holds, fails, truth, Equal, equal, differ, equality}
use Rattle.basics.specs.ListLaws.{every_snoc, every_map, Different, mem_snoc, different_snoc, at_most}
use Rattle.heap_laws.specs.Lesser.{From, UpTo}
use Rattle.heap_laws.proofs.Lesser.{from_each, from_lesser, up_to_lesser, up_to_le, up_to_beats}
use Rattle.heap_laws.specs.Parents.{Once}
use Rattle.heap_laws.proofs.Parents.{once_snoc, parent_snoc, through_from}
use Rattle.heap_laws.specs.Won.{won}
use Rattle.heap_laws.proofs.Won.{won_number, won_nowhere, won_path}
use Rattle.heap_laws.proofs.ModelCalls.{cases, step_activate, step_extract, step_refused, trace_snoc, trace_induction}
use Rattle.heap_laws.specs.ModelCalls.{Cases, activates, extracts, refuses}
use Rattle.heap_laws.specs.Sound.{Sound}

module _ (e : Rectangle) (rows cols : ℕ) where
  pub fresh_sound : Sound e rows cols fresh
  unfolding mem available parent least
  fresh_sound = record { in_rows = tt; once = tt; labelled = tt; in_columns = tt; different = tt; low = λ c h. absurd (clash h refl); high = λ c l. tt }

  pub activate_sound : (m : Model) (r v : ℕ) → r < rows → is_activated r m.activated ≡ false → m.floor ≤ v → v ≤ max_label
      → Sound e rows cols m → Sound e rows cols (activate m r v)
  unfolding activate available
  activate_sound m r v hr new hv lv g = record {
    in_rows = every_snoc (λ a. a.row < rows) m.activated a g.in_rows hr;
    once = once_snoc m.activated a g.once new;
    labelled = every_snoc (λ a. a.label ≤ max_label) m.activated a g.labelled lv;
    in_columns = g.in_columns;
    different = g.different;
    low = λ c h. rw parent_snoc (up_to_lesser m.floor (parent e m.activated c) (through e c a) (g.low c h));
    high = λ c l. rw parent_snoc (go c (g.high c l) (truth (mem c m.extracted)));
  }
    where
      a : Activation
      a = record { row = r; label = v }

      go : (c : ℕ) → From m.floor (available e m c) → Truth (mem c m.extracted)
          → From m.floor (cond (mem c m.extracted) nobody (lesser (parent e m.activated c) (through e c a)))
      go c h (holds t) = simp t tt
      go c h (fails t) = simp t (from_lesser m.floor (parent e m.activated c) (through e c a) (simp t at h) (through_from e c a m.floor hv))

  pub extract_sound : (m : Model) (x : Best) → Found (available e m) 0 cols x → Sound e rows cols m → Sound e rows cols (extract m x)
  unfolding extract available
  extract_sound m nobody f g = g
  extract_sound m (by c s) f g = go (truth (mem c m.extracted))
    where
      p : ℕ
      p = f.holder

      raised : m.floor ≤ s
      raised = rw f.here at (g.high c (omega arith))

      lowered : parent e m.activated c ≡ by p s → (d : ℕ) → Truth (mem d m.extracted) → (mem d m.extracted || eqb d c) ≡ true → UpTo s (parent e m.activated d)
      lowered own d (holds u) h = up_to_le m.floor s (parent e m.activated d) raised (g.low d u)
      lowered own d (fails u) h = rw (eqb-true d c (simp u at h), own) (le_refl s)

      above : (d : ℕ) → d < cols → Truth (mem d m.extracted || eqb d c) → From s (cond (mem d m.extracted || eqb d c) nobody (parent e m.activated d))
      above d l (holds u) = simp u tt
      above d l (fails u) = simp u (simp (or_left (mem d m.extracted) (eqb d c) u) at (from_each s (cond (mem d m.extracted) nobody (parent e m.activated d)) (λ q t r. f.no_less d q t (omega arith) (omega arith) r)))

      go : Truth (mem c m.extracted) → Sound e rows cols (extract m (by c s))
      go (holds t) = let bad : nobody ≡ by p s = simp t at f.here in let z : ◌≡◌ {A = ℕ} 0 1 = cc in absurd (omega arith)
      go (fails t) = record {
        in_rows = g.in_rows;
        once = g.once;
        labelled = g.labelled;
        in_columns = every_snoc (λ c. c < cols) m.extracted c g.in_columns (omega arith);
        different = different_snoc m.extracted c g.different t;
        low = λ d h. lowered (simp t at f.here) d (truth (mem d m.extracted)) (rw mem_snoc at h);
        high = λ d l. rw mem_snoc (above d l (truth (mem d m.extracted || eqb d c)));
      }

  extract_floor : (m : Model) (x : Best) → Found (available e m) 0 cols x → Sound e rows cols m → m.floor ≤ (extract m x).floor
  unfolding extract
  extract_floor m nobody f g = le_refl m.floor
  extract_floor m (by c s) f g = rw f.here at (g.high c (omega arith))

  -- a row whose label is no lower than the floor strictly wins no extracted column
  pub extracted_lost : (m : Model) → Sound e rows cols m → (r v c : ℕ) → m.floor ≤ v → mem c m.extracted ≡ true → won e m.activated r v c ≡ false
  extracted_lost m g r v c hv h = go (equality (e r c) no_path)
    where
      go : Equal (e r c) no_path → won e m.activated r v c ≡ false
      go (equal _ q) = won_nowhere e m.activated r v c q
      go (differ _ n) = won_number e m.activated r v c n ∙ up_to_beats m.floor (sum v (e r c)) (parent e m.activated c) (omega arith) (g.low c h)

  -- a column that it wins is not extracted where its sum there is no lower than the floor; so none is if its label is not
  pub won_open : (m : Model) → Sound e rows cols m → (r v c : ℕ) → m.floor ≤ sum v (e r c) → won e m.activated r v c ≡ true → mem c m.extracted ≡ false
  won_open m g r v c hs h = go (truth (mem c m.extracted))
    where
      go : Truth (mem c m.extracted) → mem c m.extracted ≡ false
      go (holds t) = absurd (clash h (won_number e m.activated r v c (won_path e m.activated r v c h) ∙ up_to_beats m.floor (sum v (e r c)) (parent e m.activated c) hs (g.low c t)))
      go (fails t) = t

  pub won_available : (m : Model) → Sound e rows cols m → (r v c : ℕ) → m.floor ≤ v → won e m.activated r v c ≡ true → mem c m.extracted ≡ false
  won_available m g r v c hv h = won_open m g r v c (omega arith) h

  -- ---- a call

  pub step_sound : (m : Model) (k : Call) → Sound e rows cols m → Sound e rows cols (step e rows cols m k).model
  step_sound m k g = go (cases rows m k)
    where
      go : Cases rows m k → Sound e rows cols (step e rows cols m k).model
      go (activates a) = rw (step_activate e rows cols m k a) (activate_sound m k.row k.label a.row_in_lem a.row_new a.high a.limited g)
      go (extracts h) = rw (step_extract e rows cols m k h) (extract_sound m (least_from (available e m) 0 cols) (found_is (available e m) 0 cols) g)
      go (refuses h) = rw (step_refused e rows cols m k h) g

  pub step_floor : (m : Model) (k : Call) → Sound e rows cols m → m.floor ≤ (step e rows cols m k).model.floor
  unfolding activate
  step_floor m k g = go (cases rows m k)
    where
      go : Cases rows m k → m.floor ≤ (step e rows cols m k).model.floor
      go (activates a) = rw (step_activate e rows cols m k a) (le_refl m.floor)
      go (extracts h) = rw (step_extract e rows cols m k h) (extract_floor m (least_from (available e m) 0 cols) (found_is (available e m) 0 cols) g)
      go (refuses h) = rw (step_refused e rows cols m k h) (le_refl m.floor)

  pub extend_sound : (t : Trace) (k : Call) → Sound e rows cols t.model → Sound e rows cols (extend e rows cols t k).model
  unfolding extend
  extend_sound t k g = step_sound t.model k g

  pub trace_sound : (ks : List Call) → Sound e rows cols (trace e rows cols ks).model
  trace_sound = trace_induction e rows cols (λ t. Sound e rows cols t.model) extend_sound fresh_sound

-- ---- a model that calls reach

module _ (e : Rectangle) (rows cols : ℕ) where
  pub reached_fresh : Reached e rows cols fresh
  unfolding trace trace_from
  reached_fresh = ([], refl)

  pub reached_step : (m : Model) (k : Call) → Reached e rows cols m → Reached e rows cols (step e rows cols m k).model
  unfolding extend
  reached_step m k r = (r.0 ++ k ∷ [], rw (trace_snoc e rows cols r.0 k, r.1))

  pub reached_sound : (m : Model) → Reached e rows cols m → Sound e rows cols m
  reached_sound m r = rw r.1 at (trace_sound e rows cols r.0)

-- ---- how many

rows_mem : (r : ℕ) (xs : List Activation) → mem r (map (λ a. a.row) xs) ≡ is_activated r xs
unfolding mem is_activated
rows_mem r [] = refl
rows_mem r (x ∷ xs) = rw (rows_mem r xs)

once_different : (xs : List Activation) → Once xs → Different (map (λ a. a.row) xs)
once_different [] o = tt
once_different (x ∷ xs) o = (rows_mem x.row xs ∙ o.0, once_different xs o.1)

module _ {e : Rectangle} {rows cols : ℕ} {m : Model} (g : Sound e rows cols m) where
  pub activated_few : length m.activated ≤ rows
  activated_few =
      let r : Every (λ r. r < rows) (map (λ a. a.row) m.activated) = every_map (λ a. a.row < rows) (λ r. r < rows) (λ a. a.row) m.activated (λ a h. h) g.in_rows in
      omega (arith, at_most rows (map (λ a. a.row) m.activated) (once_different m.activated g.once) r, length-map m.activated (λ (a : Activation). a.row))

  pub extracted_few : length m.extracted ≤ cols
  extracted_few = at_most cols m.extracted g.different g.in_columns
