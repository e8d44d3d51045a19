-- What each entry returns and leaves in each lent buffer, for every input. The causes are those of document 01, "Causes that turn an input away".
-- The law that this list names stands in the file `Entries` of proofs/.
--   session          a session on one block, with the law that the order of its intervals fixes their buffer
--   build_index ask_index    the index of one block, and a question to it
--   label_network     the labelling of a lent network
--   route_network     the route to a target in a lent network
--   judge_lent        the judgement of a lent network
--   reading          the text reader
--   field_entry       the six-column field reader, as it is exported
--   write_field       the nine-column field writer
--   listing          what the program `labels` writes
--   write_listing     the same in a lent buffer
use Rattle.std.specs.Prelude.{Bool, cond, ◌&&◌, ℕ, ◌+◌, ◌*◌, eqb, ltb, leb, get_or, length, take, drop, replicate}
use mathlib.Core.List.{List, [], ◌∷◌, ◌++◌, map, flat_map}
use Rattle.std.proofs.Math.Option.{Option, none, some}
use Rattle.definitions.specs.declared.ReadAnswer.{ReadAnswer}
use Rattle.definitions.specs.declared.LabelAnswer.{LabelAnswer}
use Rattle.definitions.specs.declared.RouteAnswer.{RouteAnswer}
use Rattle.definitions.specs.declared.SessionAnswer.{SessionAnswer}
use Rattle.definitions.specs.Limits.{max_arcs, max_side, max_calls, size_places, vertex_places, length_places, row_places, label_places, route_places, rectangle_places, index_row_places, index_places, call_places, answer_places, interval_places, call_size, answer_size, column_bytes, line_fields, line_places, last_place, no_target, unused_interval}
use Rattle.definitions.specs.Lists.{all, up_from, padded, within, first_cause}
use Rattle.definitions.specs.Metres.{is_length}
use Rattle.definitions.specs.Network.{Rectangle, RouteArc}
use Rattle.definitions.specs.Monge.{is_monge}
use Rattle.definitions.specs.Blocks.{blocks}
use Rattle.definitions.specs.Best.{Best, nobody, by}
use Rattle.definitions.specs.Intervals.{Interval, interval, by_first_column}
use Rattle.definitions.specs.Model.{intervals, Listed, with_best, Call, Answer, trace}
use Rattle.definitions.specs.Index.{index_of, ask, Least, no_column, turned_away, least_found}
use Rattle.definitions.specs.Labelling.{State, label_of, labelling, reached, extractions, insertions, held_label, labels, route_to}
use Rattle.definitions.specs.Judgement.{judge_source, judge_target, pieces_of, judge_network}
use Rattle.definitions.specs.Fields.{blank, line_end, field_at, decimal, nine_columns}
use Rattle.definitions.specs.Reading.{Read, refused, value, Plan, read_plan, judge_length, read_text}
use Rattle.definitions.specs.Text.{sizes_of, vertices_of, lengths_of}

-- a lent buffer has its size; if not, the cause is 1
unfoldable pub has_places : ℕ → List ℕ → Bool
has_places size buffer = eqb (length buffer) size

-- the three buffers of a network, by how many places they have
unfoldable pub judge_buffers : ℕ → ℕ → ℕ → ℕ
judge_buffers sizes vertices lengths = cond (eqb sizes size_places && (eqb vertices vertex_places && eqb lengths length_places)) 0 1

-- ---- a session

-- what it returns, and what stands in its two output buffers
pub record AfterSession : Type 0 where
  pub answer : SessionAnswer
  pub answers : List ℕ
  pub intervals : List ℕ

-- the lent rectangle, 24 places for each row
unfoldable pub rectangle_of : List ℕ → Rectangle
rectangle_of lengths i k = get_or lengths (row_places * i + k) 0

-- rows and columns within bounds
unfoldable pub judge_sides : ℕ → ℕ → ℕ
judge_sides rows cols = cond (within max_side rows && within max_side cols) 0 4

-- The sizes, the lengths, the inequality. Only rows and columns in use are looked at.
unfoldable pub judge_rectangle : ℕ → ℕ → Rectangle → ℕ
judge_rectangle rows cols e =
    first_cause (judge_sides rows cols
    ∷ cond (all (λ i. all (λ k. is_length (e i k)) cols) rows) 0 6
    ∷ cond (is_monge e rows cols) 0 7
    ∷ [])

-- the buffers, the number of calls, the rectangle
unfoldable pub judge_session : ℕ → ℕ → ℕ → List ℕ → List ℕ → List ℕ → List ℕ → ℕ
judge_session rows cols count lengths calls answers kept =
    first_cause (cond (has_places rectangle_places lengths && (has_places call_places calls && (has_places answer_places answers && has_places interval_places kept))) 0 1
    ∷ cond (leb count max_calls) 0 4
    ∷ judge_rectangle rows cols (rectangle_of lengths)
    ∷ [])

-- call j of the lent numbers, three for each
unfoldable pub call_at : List ℕ → ℕ → Call
call_at calls j = record { kind = get_or calls (call_size * j) 0; row = get_or calls (call_size * j + 1) 0; label = get_or calls (call_size * j + 2) 0 }

-- the first `count` calls
unfoldable pub calls_of : List ℕ → ℕ → List Call
calls_of calls count = map (call_at calls) (up_from 0 count)

-- the three numbers of an answer
abbrev pub answer_numbers : Answer → List ℕ
answer_numbers a = a.code ∷ a.column ∷ a.sum ∷ []

-- the answer buffer; unused places are 0
unfoldable pub answers_of : List Answer → List ℕ
answers_of answers = padded answer_places 0 (flat_map answer_numbers answers)

-- answer j of the answer buffer, and its first `count` answers
unfoldable pub answer_at : List ℕ → ℕ → Answer
answer_at answers j = record { code = get_or answers (answer_size * j) 0; column = get_or answers (answer_size * j + 1) 0; sum = get_or answers (answer_size * j + 2) 0 }

unfoldable pub answers_in : List ℕ → ℕ → List Answer
answers_in answers count = map (answer_at answers) (up_from 0 count)

-- the parent, the first and the last column of an interval
abbrev pub column_numbers : Interval → List ℕ
column_numbers (interval p f l) = p ∷ f ∷ l ∷ []

-- The column and the sum of a best. That of an interval is never nobody (`each_has_best` in the file `Model` of proofs/), so the first line is not met.
abbrev pub best_numbers : Best → List ℕ
best_numbers nobody = unused_interval ∷ unused_interval ∷ []
best_numbers (by c s) = c ∷ s ∷ []

-- the five numbers of an interval with its best (02, request 3)
abbrev pub interval_numbers : Listed → List ℕ
interval_numbers u = column_numbers u.interval ++ best_numbers u.best

-- The interval buffer, in the order of the list; unused places are 255. A best sum may be 255 too, a parent not: by its parent an unused interval is known.
unfoldable pub intervals_of : List Listed → List ℕ
intervals_of listed = padded interval_places unused_interval (flat_map interval_numbers listed)

-- a refusal returns its number and counts of 0
abbrev pub session_refusal : ℕ → SessionAnswer
session_refusal k = record { number = k; inserted = 0; removed = 0 }

-- The calls on a fresh model. The kept intervals are the model's, and they stand by rising first column, each with its best, as document 02, requests 2
-- and 3, has it. A refusal leaves both buffers.
unfoldable pub session : ℕ → ℕ → ℕ → List ℕ → List ℕ → List ℕ → List ℕ → AfterSession
session rows cols count lengths calls answers kept =
    let cause = judge_session rows cols count lengths calls answers kept in
    let e = rectangle_of lengths in
    let t = trace e rows cols (calls_of calls count) in
    let done : AfterSession = record {
      answer = record { number = 0; inserted = t.inserted; removed = t.removed };
      answers = answers_of t.answers;
      intervals = intervals_of (map (with_best e t.model) (by_first_column (intervals e cols t.model)));
    } in
    cond (eqb cause 0) done (record { answer = session_refusal cause; answers = answers; intervals = kept })

-- ---- an index (document 02, request 5)

-- what building it returns, and what stands in its buffer
pub record AfterIndex : Type 0 where
  pub number : ℕ
  pub index : List ℕ

-- the rectangle's buffer and the index's
unfoldable pub judge_index_buffers : List ℕ → List ℕ → ℕ
judge_index_buffers lengths index = cond (has_places rectangle_places lengths && has_places index_places index) 0 1

-- the buffers, then the rectangle as a session judges it
unfoldable pub judge_index : ℕ → ℕ → List ℕ → List ℕ → ℕ
judge_index rows cols lengths index = first_cause (judge_index_buffers lengths index ∷ judge_rectangle rows cols (rectangle_of lengths) ∷ [])

-- a refusal leaves the buffer
unfoldable pub build_index : ℕ → ℕ → List ℕ → List ℕ → AfterIndex
build_index rows cols lengths index =
    let cause = judge_index rows cols lengths index in
    cond (eqb cause 0) (record { number = 0; index = index_of (rectangle_of lengths) rows cols }) (record { number = cause; index = index })

-- A question refuses buffers and sides as building does. Lengths and the inequality are not judged once more: that would take longer than the question.
unfoldable pub judge_question : ℕ → ℕ → List ℕ → List ℕ → ℕ
judge_question rows cols lengths index = first_cause (judge_index_buffers lengths index ∷ judge_sides rows cols ∷ [])

-- The lowest column of least length of row i from `first` up to `end`, as the index has it. A row that is not there, a stretch that is empty and one that
-- leaves the row get none.
unfoldable pub ask_index : ℕ → ℕ → List ℕ → List ℕ → ℕ → ℕ → ℕ → Least
ask_index rows cols lengths index i first end =
    let cause = judge_question rows cols lengths index in
    let found = least_found (ask cols (rectangle_of lengths i) index first end (index_row_places * i) 0 cols) in
    cond (eqb cause 0) (cond (ltb i rows && (ltb first end && leb end cols)) found no_column) (turned_away cause)

-- ---- the labelling

-- what it returns, and what stands in its label buffer
pub record AfterLabel : Type 0 where
  pub answer : LabelAnswer
  pub labels : List ℕ

-- the buffers, the network, the source
unfoldable pub judge_labelling : ℕ → ℕ → List ℕ → List ℕ → List ℕ → ℕ → List ℕ → ℕ
judge_labelling n p sizes vertices lengths source buffer =
    first_cause (cond (has_places label_places buffer) 0 1
    ∷ judge_buffers (length sizes) (length vertices) (length lengths)
    ∷ judge_network n p sizes vertices lengths
    ∷ judge_source n source
    ∷ [])

-- what an accepted labelling returns: vertices reached, columns extracted, intervals inserted
unfoldable pub label_answer : State → LabelAnswer
label_answer st = record { number = 0; reached = reached st; extracted = extractions st; inserted = insertions st }

-- a refusal returns its number and counts of 0
abbrev pub label_refusal : ℕ → LabelAnswer
label_refusal k = record { number = k; reached = 0; extracted = 0; inserted = 0 }

-- a refusal leaves the buffer
unfoldable pub label_network : ℕ → ℕ → List ℕ → List ℕ → List ℕ → ℕ → List ℕ → AfterLabel
label_network n p sizes vertices lengths source buffer =
    let cause = judge_labelling n p sizes vertices lengths source buffer in
    let st = labelling (blocks (pieces_of p sizes vertices lengths)) source in
    let done : AfterLabel = record { answer = label_answer st; labels = labels st } in
    cond (eqb cause 0) done (record { answer = label_refusal cause; labels = buffer })

-- ---- the route to a target (document 02, request 4)

-- what it returns, and what stands in its buffer
pub record AfterRoute : Type 0 where
  pub answer : RouteAnswer
  pub arcs : List ℕ

-- the buffers, the network, the source, the target
unfoldable pub judge_route : ℕ → ℕ → List ℕ → List ℕ → List ℕ → ℕ → ℕ → List ℕ → ℕ
judge_route n p sizes vertices lengths source target buffer =
    first_cause (cond (has_places route_places buffer) 0 1
    ∷ judge_buffers (length sizes) (length vertices) (length lengths)
    ∷ judge_network n p sizes vertices lengths
    ∷ judge_source n source
    ∷ judge_target n target
    ∷ [])

-- the four numbers of an arc: from vertex, to vertex, piece, length
unfoldable pub arc_numbers : RouteArc → List ℕ
arc_numbers a = a.from ∷ a.to ∷ a.piece ∷ a.length ∷ []

-- the buffer, arc by arc; unused places are 0
unfoldable pub arcs_of : List RouteArc → List ℕ
arcs_of arcs = padded route_places 0 (flat_map arc_numbers arcs)

-- what an accepted route returns: the target's label as the label buffer would hold it, and how many arcs lead there
unfoldable pub route_answer : State → ℕ → RouteAnswer
route_answer st target = record { number = 0; label = held_label (label_of target st.settled); arcs = length (route_to st target) }

-- a refusal returns its number and counts of 0
abbrev pub route_refusal : ℕ → RouteAnswer
route_refusal k = record { number = k; label = 0; arcs = 0 }

-- a refusal leaves the buffer
unfoldable pub route_network : ℕ → ℕ → List ℕ → List ℕ → List ℕ → ℕ → ℕ → List ℕ → AfterRoute
route_network n p sizes vertices lengths source target buffer =
    let cause = judge_route n p sizes vertices lengths source target buffer in
    let st = labelling (blocks (pieces_of p sizes vertices lengths)) source in
    let done : AfterRoute = record { answer = route_answer st target; arcs = arcs_of (route_to st target) } in
    cond (eqb cause 0) done (record { answer = route_refusal cause; arcs = buffer })

-- ---- the judgement alone

-- the buffers, then the network
unfoldable pub judge_lent : ℕ → ℕ → List ℕ → List ℕ → List ℕ → ℕ
judge_lent n p sizes vertices lengths = first_cause (judge_buffers (length sizes) (length vertices) (length lengths) ∷ judge_network n p sizes vertices lengths ∷ [])

-- ---- the text reader

-- what it returns, and what stands in its three buffers
pub record AfterRead : Type 0 where
  pub answer : ReadAnswer
  pub sizes : List ℕ
  pub vertices : List ℕ
  pub lengths : List ℕ

-- a refusal returns its number and counts of 0
abbrev pub read_refusal : ℕ → ReadAnswer
read_refusal k = record { number = k; n = 0; p = 0; source = 0; target = 0 }

-- a target as the reader returns it (02, request 4)
unfoldable pub held_target : Option ℕ → ℕ
held_target none = no_target
held_target (some target) = target

-- a refusal by 3 to 8 or 12 leaves 0 everywhere
unfoldable pub after_read : Read Plan → AfterRead
after_read (refused k) = record {
  answer = read_refusal k;
  sizes = replicate size_places 0;
  vertices = replicate vertex_places 0;
  lengths = replicate length_places 0;
}
after_read (value plan) = record {
  answer = record { number = 0; n = plan.n; p = length plan.pieces; source = plan.source; target = held_target plan.target };
  sizes = sizes_of plan.pieces;
  vertices = vertices_of plan.pieces;
  lengths = lengths_of plan.pieces;
}

-- the buffers, the length of the text, the text; 1 and 2 leave the buffers
unfoldable pub reading : List ℕ → List ℕ → List ℕ → List ℕ → AfterRead
reading text sizes vertices lengths =
    let cause = first_cause (judge_buffers (length sizes) (length vertices) (length lengths) ∷ judge_length text ∷ []) in
    cond (eqb cause 0)
    (after_read (read_plan text))
    (record { answer = read_refusal cause; sizes = sizes; vertices = vertices; lengths = lengths })

-- ---- the exported field reader

-- the number returned, and what stands in the buffer
pub record AfterField : Type 0 where
  pub number : ℕ
  pub value : List ℕ

-- An enum does not cross to C: the number is returned, and the value left in a buffer of one place; 0 where there is no field. A buffer of
-- another size is left.
unfoldable pub field_entry : List ℕ → ℕ → List ℕ → AfterField
field_entry text at buffer =
    cond (has_places 1 buffer)
    (record { number = (field_at text at).number; value = (field_at text at).value ∷ [] })
    (record { number = 1; value = buffer })

-- ---- the field writer

-- the line, then the place
unfoldable pub judge_write : List ℕ → ℕ → ℕ
judge_write line place = first_cause (cond (has_places line_places line) 0 1 ∷ cond (leb place last_place) 0 4 ∷ [])

-- the number returned, and what stands in the line
pub record AfterWrite : Type 0 where
  pub number : ℕ
  pub line : List ℕ

-- the nine columns at the place are written, the others stay; a refusal leaves the line
unfoldable pub write_field : List ℕ → ℕ → ℕ → AfterWrite
write_field line place x =
    let cause = judge_write line place in
    let written = take (column_bytes * place) line ++ (nine_columns x ++ drop (column_bytes * place + column_bytes) line) in
    cond (eqb cause 0) (record { number = 0; line = written }) (record { number = cause; line = line })

-- ---- the program `labels`

-- fields of nine columns and one byte 10
unfoldable pub listing_line : List ℕ → List ℕ
listing_line xs = flat_map nine_columns xs ++ (line_end ∷ [])

-- the bytes of `refused`, a blank, the number
unfoldable pub refusal_line : ℕ → List ℕ
refusal_line k = 114 ∷ 101 ∷ 102 ∷ 117 ∷ 115 ∷ 101 ∷ 100 ∷ blank ∷ (decimal k ++ (line_end ∷ []))

-- A line of the source and the three counts; then a line for each vertex with its label. `unreached` is more than nine columns hold, so it is
-- written as `-`.
unfoldable pub state_listing : ℕ → ℕ → State → List ℕ
state_listing n source st =
    listing_line (source ∷ reached st ∷ extractions st ∷ insertions st ∷ [])
    ++ flat_map (λ v. listing_line (v ∷ held_label (label_of v st.settled) ∷ [])) (up_from 1 n)

-- A line of the source, the target, its label and how many arcs lead there; then a line for each arc (02, request 4).
unfoldable pub route_listing : ℕ → ℕ → State → List ℕ
route_listing source target st =
    listing_line (source ∷ target ∷ held_label (label_of target st.settled) ∷ length (route_to st target) ∷ [])
    ++ flat_map (λ a. listing_line (arc_numbers a)) (route_to st target)

-- the labels of all vertices, or the route to a target
unfoldable pub question_listing : ℕ → ℕ → Option ℕ → State → List ℕ
question_listing n source none st = state_listing n source st
question_listing n source (some target) st = route_listing source target st

-- the listing of what was read
unfoldable pub plan_listing : Read Plan → List ℕ
plan_listing (refused k) = refusal_line k
plan_listing (value plan) = question_listing plan.n plan.source plan.target (labelling (blocks plan.pieces) plan.source)

-- what `labels` writes for the bytes that it reads
unfoldable pub listing : List ℕ → List ℕ
listing text = plan_listing (read_text text)

-- ---- the listing in a lent buffer

-- the bytes of a line of k fields of nine columns
abbrev pub listing_line_bytes : ℕ → ℕ
listing_line_bytes k = column_bytes * k + 1

-- room for the longest listing, 9,472 bytes: a line of four fields, and one more for each arc. That of the labels is shorter, with a line of two fields for
-- each vertex.
abbrev pub listing_places : ℕ
listing_places = listing_line_bytes line_fields + max_arcs * listing_line_bytes line_fields

-- how many bytes were written, and what stands in the output buffer
pub record AfterListing : Type 0 where
  pub written : ℕ
  pub out : List ℕ

-- The listing stands at the front, and behind it what stood there before. A buffer of another size is left, and no byte is written.
unfoldable pub write_listing : List ℕ → List ℕ → AfterListing
write_listing text out =
    cond (has_places listing_places out)
    (record { written = length (listing text); out = listing text ++ drop (length (listing text)) out })
    (record { written = 0; out = out })
