-- One call by what it is, and a list of calls.
--   cases                                        an activation, an extraction, or refused
--   step_activate step_extract step_refused      what each does
--   trace_snoc trace_activate                    one call more
--   trace_induction                              what every call keeps holds after any list
use Rattle.std.specs.Prelude.{◌≡◌, false, ◌||◌, ◌≢◌, ℕ, eqb, ltb, leb}
use Rattle.std.proofs.Math.Path.{refl}
use mathlib.Core.List.{List, [], ◌∷◌, ◌++◌}
use Rattle.std.proofs.Common.{arith}
use borrow.Author.Tests.{eq-eqb, ne_eqb, lt-leb, leb-false, le-ltb, ltb-false}
use Rattle.definitions.specs.Limits.{max_label}
use Rattle.definitions.specs.Network.{Rectangle}
use Rattle.definitions.specs.Best.{least_from}
use Rattle.definitions.specs.Model.{Model, available, is_activated, judge, Call, extraction_of, coded, activate, extract, step, Trace, fresh_trace, extend, trace_from, trace}
use Rattle.logic.specs.Tests.{or_left, or_right, Truth, holds, fails, truth, Equal, equal, differ, equality}
use Rattle.heap_laws.specs.ModelCalls.{Activates, Cases, activates, extracts, refuses}

pub cases : (rows : ℕ) (m : Model) (k : Call) → Cases rows m k
unfolding judge
cases rows m k = one (equality k.kind 1)
  where
    four : k.kind ≡ 1 → leb rows k.row ≡ false → is_activated k.row m.activated ≡ false → Truth (ltb max_label k.label || ltb k.label m.floor) → Cases rows m k
    four q u v (holds x) = refuses (simp (q, u, v, x) (λ z. absurd (omega arith)))
    four q u v (fails x) = activates (record {
      kind_is = q;
      row_in_lem = leb-false rows k.row u;
      row_new = v;
      high = ltb-false k.label m.floor (or_right (ltb max_label k.label) (ltb k.label m.floor) x);
      limited = ltb-false max_label k.label (or_left (ltb max_label k.label) (ltb k.label m.floor) x);
    })

    three : k.kind ≡ 1 → leb rows k.row ≡ false → Truth (is_activated k.row m.activated) → Cases rows m k
    three q u (holds v) = refuses (simp (q, u, v) (λ z. absurd (omega arith)))
    three q u (fails v) = four q u v (truth (ltb max_label k.label || ltb k.label m.floor))

    two : k.kind ≡ 1 → Truth (leb rows k.row) → Cases rows m k
    two q (holds u) = refuses (simp (q, u) (λ z. absurd (omega arith)))
    two q (fails u) = three q u (truth (is_activated k.row m.activated))

    other : eqb k.kind 1 ≡ false → Equal k.kind 2 → Cases rows m k
    other t (equal _ q) = extracts q
    other t (differ u _) = refuses (simp (t, u) (λ z. absurd (omega arith)))

    one : Equal k.kind 1 → Cases rows m k
    one (equal _ q) = two q (truth (leb rows k.row))
    one (differ t _) = other t (equality k.kind 2)

module _ (e : Rectangle) (rows cols : ℕ) (m : Model) (k : Call) where
  judge_activate : Activates rows m k → judge rows m k ≡ 0
  unfolding judge
  judge_activate a =
      simp (eq-eqb k.kind 1 a.kind_is, lt-leb rows k.row a.row_in_lem, a.row_new, le-ltb max_label k.label a.limited, le-ltb k.label m.floor a.high)

  pub step_activate : Activates rows m k → step e rows cols m k ≡ record { model = activate m k.row k.label; answer = coded 0 }
  unfolding step
  step_activate a = simp (judge_activate a, eq-eqb k.kind 1 a.kind_is)

  pub step_extract : k.kind ≡ 2
      → step e rows cols m k ≡ record { model = extract m (least_from (available e m) 0 cols); answer = extraction_of (least_from (available e m) 0 cols) }
  unfolding step judge
  step_extract h = rw h

  pub step_refused : judge rows m k ≢ 0 → step e rows cols m k ≡ record { model = m; answer = coded (judge rows m k) }
  unfolding step
  step_refused h = simp (ne_eqb (judge rows m k) 0 h)

-- ---- a list of calls

module _ (e : Rectangle) (rows cols : ℕ) where
  trace_from_snoc : (t : Trace) (ks : List Call) (k : Call) → trace_from e rows cols t (ks ++ k ∷ []) ≡ extend e rows cols (trace_from e rows cols t ks) k
  unfolding trace_from
  trace_from_snoc t [] k = refl
  trace_from_snoc t (j ∷ ks) k = trace_from_snoc (extend e rows cols t j) ks k

  pub trace_snoc : (ks : List Call) (k : Call) → trace e rows cols (ks ++ k ∷ []) ≡ extend e rows cols (trace e rows cols ks) k
  unfolding trace
  trace_snoc ks k = trace_from_snoc fresh_trace ks k

  pub trace_activate : (ks : List Call) (k : Call) → Activates rows (trace e rows cols ks).model k
      → (trace e rows cols (ks ++ k ∷ [])).model ≡ activate (trace e rows cols ks).model k.row k.label
  unfolding extend
  trace_activate ks k a = rw (trace_snoc ks k, step_activate e rows cols (trace e rows cols ks).model k a)

  module _ (P : Trace → Type 0) (kept : (t : Trace) (k : Call) → P t → P (extend e rows cols t k)) where
    from_any : (t : Trace) (ks : List Call) → P t → P (trace_from e rows cols t ks)
    unfolding trace_from
    from_any t [] h = h
    from_any t (k ∷ ks) h = from_any (extend e rows cols t k) ks (kept t k h)

    pub trace_induction : P fresh_trace → (ks : List Call) → P (trace e rows cols ks)
    unfolding trace
    trace_induction h ks = from_any fresh_trace ks h
