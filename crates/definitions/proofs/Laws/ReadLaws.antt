-- What was read, taken apart.
--   value_same bind_value require_value   a value that was read step by step
--   field_value                           a field that was read is the one at its place
--   fields_length line_length             as many numbers as were asked for
use Rattle.std.specs.Prelude.{◌≡◌, refl, List, [], ◌∷◌, ℕ, zero, suc, ◌+◌, ◌*◌, length}
use Rattle.std.proofs.Common.{sym, ap, ◌∙◌, arith}
use Rattle.definitions.specs.Fields.{field_bytes, a_field}
use Rattle.definitions.specs.Reading.{FieldReading, Read, refused, value, ◌>>=◌, require, read_field, read_fields, judge_line_end, read_line}

pub value_same : {A : Type 0} (a b : A) → value a ≡ value b → a ≡ b
value_same a b e = cc

pub bind_value : {A B : Type 0} (r : Read A) (f : A → Read B) (b : B) → ◌>>=◌ r f ≡ value b → (a : A) × (r ≡ value a) × (f a ≡ value b)
bind_value (refused k) f b e = let z : ◌≡◌ {A = ℕ} 0 1 = cc in absurd (omega arith)
bind_value (value a) f b e = (a, refl, e)

pub require_value : (k : ℕ) (u : Unit {0}) → require k ≡ value u → k ≡ 0
require_value zero u e = refl
require_value (suc k) u e = let z : ◌≡◌ {A = ℕ} 0 1 = cc in absurd (omega arith)

pub field_value : (field : FieldReading) (text : List ℕ) (at x : ℕ) → read_field field text at ≡ value x → field text at ≡ a_field x
unfolding read_field
field_value field text at x e =
    let a = bind_value (require (field text at).number) _ x e in
    let number : (field text at).number ≡ 0 = require_value (field text at).number a.0 a.1 in
    let same : (field text at).value ≡ x = value_same (field text at).value x a.2 in
    rw (← same, ← number)

pub fields_length : (field : FieldReading) (text : List ℕ) (at k : ℕ) (xs : List ℕ) → read_fields field text at k ≡ value xs → length xs ≡ k
unfolding read_fields
fields_length field text at zero xs e = ap length (sym (value_same [] xs e))
fields_length field text at (suc k) xs e =
    let a = bind_value (read_field field text at) _ xs e in
    let b = bind_value (read_fields field text (at + field_bytes) k) _ xs a.2 in
    ap length (sym (value_same (a.0 ∷ b.0) xs b.2)) ∙ ap suc (fields_length field text (at + field_bytes) k b.0 b.1)

pub line_length : (field : FieldReading) (text : List ℕ) (at k : ℕ) (xs : List ℕ) → read_line field text at k ≡ value xs → length xs ≡ k
unfolding read_line
line_length field text at k xs e =
    let a = bind_value (read_fields field text at k) _ xs e in
    let b = bind_value (require (judge_line_end text (at + field_bytes * k))) _ xs a.2 in
    ap length (sym (value_same a.0 xs b.2)) ∙ fields_length field text at k a.0 a.1
