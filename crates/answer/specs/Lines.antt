-- The lines of a listing.
--   length_line                                          a line of k fields has 9·k + 1 bytes
--   fields_turn fields_all                               a line's fields, written one by one
--   lines_from length_lines lines_none lines_more         a line for each of several numbers; of none, and of one number more
--   vertex_fields vertex_lines length_vertices             the lines of the vertices
--   arc_fields arc_lines length_numbers .. length_arcs     the lines of the arcs in the buffer of a route
--   arcs_lines                                           they are those of the route's arcs
--   refusal_word refusal_bytes refusal_is refusal_fits     the line of a refusal
use Rattle.std.specs.Prelude.{◌≡◌, refl, get_or, length, take, drop}
use Rattle.std.proofs.Common.{sym, ap, ◌∙◌, add-zero, zero-mul, suc-mul, eq-eqb, le-leb, length-append, length-drop, take_at, take_all, take-suc, length-take-le}
use mathlib.Core.List.{List, [], ◌∷◌, ◌++◌, map, flat_map, append_assoc, append-nil}
use Prim.Native.Nat.{ℕ, zero, suc, ◌+◌, ◌-◌, ◌*◌, ◌≤◌, ◌<◌}
use Rattle.std.proofs.Math.Numerals.{add-one}
use native.Mathlib.Omega.{arith}
use Rattle.definitions.specs.Limits.{arc_size, column_bytes, line_fields, line_places, last_place}
use Rattle.definitions.specs.Lists.{up_from, padded, first_cause}
use Rattle.definitions.specs.Network.{RouteArc}
use Rattle.definitions.specs.Fields.{blank, line_end, decimal, nine_columns}
use Rattle.definitions.specs.Entries.{has_places, arc_numbers, arcs_of, judge_write, write_field, listing_line, refusal_line, listing_line_bytes}
use Rattle.fields.specs.NineColumns.{length_nine_columns, max_digits, decimal_few}
use Rattle.basics.specs.Buffers.{flat_map_snoc}
use Rattle.basics.specs.Sequences.{map_next}

length_fields : (xs : List ℕ) → length (flat_map nine_columns xs) ≡ column_bytes * length xs
unfolding flat_map
length_fields [] = omega arith
length_fields (x ∷ xs) = length-append (nine_columns x) (flat_map nine_columns xs) ∙ omega (arith, length_nine_columns x, length_fields xs)

pub length_line : (xs : List ℕ) → length (listing_line xs) ≡ listing_line_bytes (length xs)
unfolding listing_line
length_line xs = length-append (flat_map nine_columns xs) (line_end ∷ []) ∙ omega (arith, length_fields xs)

-- ---- the fields of a line

-- one field more
pub fields_turn : (line numbers : List ℕ) (i : ℕ) → length line ≡ line_places → length numbers ≤ line_fields → i < length numbers → take (column_bytes * i) line ≡ flat_map nine_columns (take i numbers)
    → take (column_bytes * (i + 1)) (write_field line i (get_or numbers i 0)).line ≡ flat_map nine_columns (take (i + 1) numbers)
unfolding write_field judge_write has_places first_cause
fields_turn line numbers i long few h e =
    let x = get_or numbers i 0 in
    let z : i ≤ last_place = omega arith in
    let end : length (take (column_bytes * i) line ++ nine_columns x) ≡ column_bytes * (i + 1) = length-append (take (column_bytes * i) line) (nine_columns x) ∙ omega (arith, length_nine_columns x, length-take-le (column_bytes * i) line (omega arith)) in
    simp (eq-eqb _ _ long, le-leb _ _ z)
    (rw (← append_assoc (take (column_bytes * i) line) (nine_columns x) (drop (column_bytes * i + column_bytes) line), take_at (take (column_bytes * i) line ++ nine_columns x) (drop (column_bytes * i + column_bytes) line) (column_bytes * (i + 1)) end, e, add-one i, take-suc numbers i 0 h)
    (sym (flat_map_snoc nine_columns (take i numbers) x)))

-- all of them, and the byte 10
pub fields_all : (line numbers : List ℕ) (i : ℕ) → i ≡ length numbers → take (column_bytes * i) line ≡ flat_map nine_columns (take i numbers) → take (column_bytes * i) line ++ (line_end ∷ []) ≡ listing_line numbers
unfolding listing_line
fields_all line numbers i h e = rw (e, take_all i numbers (omega arith))

-- ---- a line for each of several numbers

-- k numbers from v on, each with the fields that f says
unfoldable pub lines_from : (ℕ → List ℕ) → ℕ → ℕ → List ℕ
lines_from f v k = flat_map listing_line (map f (up_from v k))

pub length_lines : (f : ℕ → List ℕ) (bytes v k : ℕ) → ((w : ℕ) → v ≤ w → w < v + k → length (listing_line (f w)) ≡ bytes) → length (lines_from f v k) ≡ k * bytes
unfolding lines_from flat_map up_from
length_lines f bytes v zero same = sym (zero-mul bytes)
length_lines f bytes v (suc k) same =
    length-append (listing_line (f v)) (lines_from f (suc v) k)
    ∙ omega (arith, same v (omega arith) (omega arith), length_lines f bytes (suc v) k (λ w low high. same w (omega arith) (omega arith)), suc-mul k bytes)

-- none
pub lines_none : (f : ℕ → List ℕ) (v : ℕ) → lines_from f v 0 ≡ []
unfolding lines_from flat_map up_from
lines_none f v = refl

-- one line more
pub lines_more : (f : ℕ → List ℕ) (v k : ℕ) → lines_from f v (k + 1) ≡ lines_from f v k ++ listing_line (f (v + k))
unfolding lines_from flat_map up_from
lines_more f v zero = rw add-zero (append-nil (listing_line (f v)))
lines_more f v (suc k) =
    let e : suc k + 1 ≡ suc (k + 1) = omega arith in
    let z : v + suc k ≡ suc v + k = omega arith in
    rw (e, z) (ap (λ (l : List ℕ). listing_line (f v) ++ l) (lines_more f (suc v) k) ∙ sym (append_assoc (listing_line (f v)) (lines_from f (suc v) k) (listing_line (f (suc v + k)))))

-- ---- the lines of vertices

-- a vertex and the label that a buffer holds
abbrev pub vertex_fields : List ℕ → ℕ → List ℕ
vertex_fields labels v = v ∷ get_or labels (v - 1) 0 ∷ []

-- k vertices from v on
abbrev pub vertex_lines : List ℕ → ℕ → ℕ → List ℕ
vertex_lines labels v k = lines_from (vertex_fields labels) v k

pub length_vertices : (labels : List ℕ) (v k : ℕ) → length (vertex_lines labels v k) ≡ k * listing_line_bytes 2
length_vertices labels v k = length_lines (vertex_fields labels) (listing_line_bytes 2) v k (λ w _ _. length_line (vertex_fields labels w))

-- ---- the lines of arcs

-- the numbers of arc i, from 0, of a buffer
abbrev pub arc_fields : List ℕ → ℕ → List ℕ
arc_fields arcs i = take arc_size (drop (arc_size * i) arcs)

-- k arcs from arc i on
abbrev pub arc_lines : List ℕ → ℕ → ℕ → List ℕ
arc_lines arcs i k = lines_from (arc_fields arcs) i k

pub length_numbers : (arcs : List ℕ) (i : ℕ) → arc_size * (i + 1) ≤ length arcs → length (arc_fields arcs i) ≡ arc_size
length_numbers arcs i h = length-take-le arc_size (drop (arc_size * i) arcs) (simp length-drop (omega arith))

pub length_arc : (arcs : List ℕ) (i : ℕ) → arc_size * (i + 1) ≤ length arcs → length (listing_line (arc_fields arcs i)) ≡ listing_line_bytes arc_size
length_arc arcs i h = length_line (arc_fields arcs i) ∙ ap listing_line_bytes (length_numbers arcs i h)

pub length_arcs : (arcs : List ℕ) (k : ℕ) → arc_size * k ≤ length arcs → length (arc_lines arcs 0 k) ≡ k * listing_line_bytes arc_size
length_arcs arcs k h = length_lines (arc_fields arcs) (listing_line_bytes arc_size) 0 k (λ w _ high. length_arc arcs w (omega arith))

-- the groups of four at the front of a buffer that begins with arcs
groups : (arcs : List RouteArc) (rest : List ℕ) → map (arc_fields (flat_map arc_numbers arcs ++ rest)) (up_from 0 (length arcs)) ≡ map arc_numbers arcs
unfolding flat_map arc_numbers up_from
groups [] rest = refl
groups (a ∷ arcs) rest = ap (λ (gs : List (List ℕ)). arc_numbers a ∷ gs) (map_next _ (arc_fields (flat_map arc_numbers arcs ++ rest)) step 0 (length arcs) ∙ groups arcs rest)
  where
    step : (j : ℕ) → arc_fields (flat_map arc_numbers (a ∷ arcs) ++ rest) (suc j) ≡ arc_fields (flat_map arc_numbers arcs ++ rest) j
    step j = let z : arc_size * suc j ≡ suc (suc (suc (suc (arc_size * j)))) = omega arith in rw z

line_each : (arcs : List RouteArc) → flat_map listing_line (map arc_numbers arcs) ≡ flat_map (λ a. listing_line (arc_numbers a)) arcs
unfolding flat_map
line_each [] = refl
line_each (a ∷ arcs) = rw (line_each arcs)

-- those of a route's buffer are those of its arcs
pub arcs_lines : (arcs : List RouteArc) → arc_lines (arcs_of arcs) 0 (length arcs) ≡ flat_map (λ a. listing_line (arc_numbers a)) arcs
unfolding lines_from arcs_of padded
arcs_lines arcs = rw (groups arcs _) (line_each arcs)

-- ---- the line of a refusal

-- `refused` and a blank
abbrev pub refusal_word : List ℕ
refusal_word = 114 ∷ 101 ∷ 102 ∷ 117 ∷ 115 ∷ 101 ∷ 100 ∷ blank ∷ []

-- room for it, whatever the number
abbrev pub refusal_bytes : ℕ
refusal_bytes = length refusal_word + max_digits + 1

pub refusal_is : (k : ℕ) → (refusal_word ++ decimal k) ++ (line_end ∷ []) ≡ refusal_line k
unfolding refusal_line
refusal_is k = append_assoc refusal_word (decimal k) (line_end ∷ [])

pub refusal_fits : (k : ℕ) → length (refusal_line k) ≤ refusal_bytes
refusal_fits k = rw (← refusal_is k) (simp length-append (omega (arith, decimal_few k)))
