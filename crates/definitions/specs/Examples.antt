-- Document 01, "Depot examples": P1 to P12, rows of one table closed by one statement, by computation from the definitions. P7 to P11
-- have the five numbers of document 02, request 3, for each interval; P9 lists its two in the order of request 2; the second half of P12 is that of request 1.
-- P13 to P18 are our own, for the questions with a target of request 4; P19 to P22 for the index of request 5; P23 to P30 for no path, of
-- request 7: the check, beginning with the block that the request names (P23), texts (P24 to P26), labels and routes (P27), sessions (P28, P29), the index (P30).
use Rattle.std.specs.Prelude.{◌≡◌, refl, ℕ, pred, get_or, length, replicate}
use mathlib.Core.List.{List, [], ◌∷◌, ◌++◌, map, flat_map}
use Prim.Native.Char.{code}
use Prim.Native.String.{String, [] as empty, ◌∷◌ as ◌before◌}
use Rattle.definitions.specs.Limits.{size_places, vertex_places, length_places, row_places, table_places, label_places, route_places, rectangle_places, index_row_places, index_places, call_places, answer_places, interval_places, unreached, no_target, no_path, unused_interval}
use Rattle.definitions.specs.Lists.{all, every, mem, different, total, up_from, down_to, padded, within, first_cause}
use Rattle.definitions.specs.Network.{entry, size_of}
use Rattle.definitions.specs.Blocks.{splits, splits_of, windows, windows_of, rows_of, columns_of, Block, block_of, blocks_of, blocks_from, blocks, no_block, passes}
use Rattle.definitions.specs.Metres.{is_length, metres_of, plus, at_most}
use Rattle.definitions.specs.Monge.{corners, is_monge}
use Rattle.definitions.specs.Best.{lesser, least, placed, least_from}
use Rattle.definitions.specs.Intervals.{adjoins, joined, prepend, prepend_column, runs, same_interval, is_kept, no_later, put_in_order, by_first_column, count_new}
use Rattle.definitions.specs.Model.{through, parent, available, intervals, is_activated, judge, activate, extract, step, extend, trace_from, trace}
use Rattle.definitions.specs.Index.{least_in, column_of, held_at, row_index, index_of, in_stretch, held_in, ask, least_answer}
use Rattle.definitions.specs.Labelling.{fresh_block, apply, least_of, place_of, activate_at, activate_vertex, label_of, arc_of, settle_as, settle, chosen, place_in, arc_at, arc_into, extract_from, advance, steps, start, columns, labelling, reached, extractions, insertions, held_label, labels, arcs_to, route_to}
use Rattle.definitions.specs.Judgement.{judge_bounds, judge_size, judge_vertices, judge_row, judge_rows, judge_blocks, judge_source, judge_target, judge_piece, piece_at, pieces_of, judge_from, judge_network}
use Rattle.definitions.specs.Fields.{is_digit, skip_blanks, is_numeral, numeral_value, field_of, is_dash, length_of, six_at, digits_of, decimal, right_justified, nine_columns}
use Rattle.definitions.specs.Reading.{Read, refused, value, Plan, read_field, read_fields, judge_line_end, read_line, read_rows, read_piece, piece_bytes, read_pieces, judge_end, target_in, question_of, question_size, judge_asked, read_question, read_body, read_plan, judge_length, read_text}
use Rattle.definitions.specs.Text.{sizes_of, vertices_of, table_of, lengths_of}
use Rattle.definitions.specs.Entries.{AfterRead, AfterLabel, AfterRoute, AfterSession, AfterIndex, has_places, judge_buffers, held_target, after_read, reading, judge_labelling, label_answer, label_network, judge_route, arc_numbers, arcs_of, route_answer, route_network, rectangle_of, judge_sides, judge_rectangle, judge_session, judge_index_buffers, judge_index, build_index, judge_question, ask_index, call_at, calls_of, answers_of, intervals_of, session, listing_line, refusal_line, state_listing, route_listing, question_listing, plan_listing, listing}

-- ---- the texts

-- the bytes of a quoted text
bytes : String → List ℕ
bytes empty = []
bytes (c before cs) = code c ∷ bytes cs

-- the depot example's text with a first row of the table and a question line
depot_with : String → String → List ℕ
depot_with first question =
    bytes "     5     1\n     4     1     2     3     4\n" ++ (bytes first ++ (bytes "     3     0     4     6\n     7     4     0     2\n     5     6     2     0\n" ++ bytes question))

depot : String → List ℕ
depot question = depot_with "     0     3     7     5\n" question

-- with 100000 for the length from vertex 1 to vertex 2; with the same on the diagonal
long_length : List ℕ
long_length = depot_with "     0100000     7     5\n" "     1\n"

long_diagonal : List ℕ
long_diagonal = depot_with "100000     3     7     5\n" "     1\n"

-- two pieces, of the vertices 1 and 2 and of 2 and 3, with a question line; vertex 4 is in none
chain : String → List ℕ
chain question = bytes "     4     2\n     2     1     2\n     0     5\n     6     0\n     2     2     3\n     0     7\n     8     0\n" ++ bytes question

-- the same without vertex 4, and with no path from vertex 1 to vertex 2
one_way : String → List ℕ
one_way question = bytes "     3     2\n     2     1     2\n     0     -\n     6     0\n     2     2     3\n     0     7\n     8     0\n" ++ bytes question

-- a network of one vertex: the fields of n, p, m, the vertex and the source
single : String → String → String → String → String → List ℕ
single n p m v source = bytes n ++ (bytes p ++ (bytes "\n" ++ (bytes m ++ (bytes v ++ (bytes "\n     0\n" ++ (bytes source ++ bytes "\n"))))))

-- ---- what is run, and what it shows

-- what stands in a lent buffer before: every place that must be written or left shows
abbrev filler : ℕ
filler = 7

pub data Example : Type 0 where
  -- the program `labels` on a text
  program : List ℕ → Example
  -- the counts of a text's labelling
  labelled : List ℕ → Example
  -- the text reader
  read : List ℕ → Example
  -- the text reader, then the labelling of the network that it left in the lent buffers
  lent : List ℕ → Example
  -- the text reader, then the route to its target in the network that it left in the lent buffers
  route : List ℕ → Example
  -- a block of a text, by its number
  block : List ℕ → ℕ → Example
  -- a session on a rectangle, given by its rows, each call three numbers
  calls : List (List ℕ) → List (List ℕ) → Example
  -- the index of a rectangle, given by its rows
  index : List (List ℕ) → Example
  -- a question to that index: a row, a first column and an end
  ask_built : List (List ℕ) → ℕ → ℕ → ℕ → Example
  -- the same of other numbers than those that building leaves
  ask_other : List (List ℕ) → List ℕ → ℕ → ℕ → ℕ → Example
  -- six bytes
  field : String → Example

pub data Shown : Type 0 where
  -- the bytes written
  writes : List ℕ → Shown
  -- vertices reached, columns extracted, intervals inserted
  counts : ℕ → ℕ → ℕ → Shown
  -- the reader's number, n, p, source and target, and its three buffers
  fills : ℕ → ℕ → ℕ → ℕ → ℕ → List ℕ → List ℕ → List ℕ → Shown
  -- vertices reached, columns extracted, intervals inserted, and the label buffer
  lists : ℕ → ℕ → ℕ → List ℕ → Shown
  -- a route's number, label and number of arcs, and its buffer
  leads : ℕ → ℕ → ℕ → List ℕ → Shown
  -- the vertices of a block's rows and of its columns, and its entries row by row
  shows : List ℕ → List ℕ → List (List ℕ) → Shown
  -- a session's number, its answer buffer and its interval buffer, inserted and removed
  leaves : ℕ → List ℕ → List ℕ → ℕ → ℕ → Shown
  -- the number that building returns, and the index
  holds : ℕ → List ℕ → Shown
  -- the code and the column of a question's answer
  finds : ℕ → ℕ → Shown
  -- refused by a number
  refuses : ℕ → Shown

counts_of : Read Plan → Shown
counts_of (refused k) = refuses k
counts_of (value plan) = let st = labelling (blocks plan.pieces) plan.source in counts (reached st) (extractions st) (insertions st)

read_into : List ℕ → AfterRead
read_into text = reading text (replicate size_places filler) (replicate vertex_places filler) (replicate length_places filler)

filled : AfterRead → Shown
filled r = fills r.answer.number r.answer.n r.answer.p r.answer.source r.answer.target r.sizes r.vertices r.lengths

label_lent : AfterRead → AfterLabel
label_lent r = label_network r.answer.n r.answer.p r.sizes r.vertices r.lengths r.answer.source (replicate label_places filler)

listed : AfterLabel → Shown
listed a = lists a.answer.reached a.answer.extracted a.answer.inserted a.labels

route_lent : AfterRead → AfterRoute
route_lent r = route_network r.answer.n r.answer.p r.sizes r.vertices r.lengths r.answer.source r.answer.target (replicate route_places filler)

led : AfterRoute → Shown
led a = leads a.answer.number a.answer.label a.answer.arcs a.arcs

entries_of : Block → List (List ℕ)
entries_of b = map (λ i. map (λ k. b.lengths i k) (up_from 0 (length b.cols))) (up_from 0 (length b.rows))

block_in : ℕ → Read Plan → Shown
block_in number (refused k) = refuses k
block_in number (value plan) = let b = get_or (blocks plan.pieces) (pred number) no_block in shows b.rows b.cols (entries_of b)

-- a lent rectangle of these rows, and how many columns it has
lent_rows : List (List ℕ) → List ℕ
lent_rows rows = padded rectangle_places filler (flat_map (padded row_places filler) rows)

cols_of : List (List ℕ) → ℕ
cols_of rows = length (get_or rows 0 [])

run_session : List (List ℕ) → List (List ℕ) → AfterSession
run_session rows ks =
    session (length rows) (cols_of rows) (length ks) (lent_rows rows) (padded call_places filler (flat_map (λ k. k) ks))
    (replicate answer_places filler) (replicate interval_places filler)

left : AfterSession → Shown
left a = leaves a.answer.number a.answers a.intervals a.answer.inserted a.answer.removed

built_of : List (List ℕ) → AfterIndex
built_of rows = build_index (length rows) (cols_of rows) (lent_rows rows) (replicate index_places filler)

held : AfterIndex → Shown
held a = holds a.number a.index

answered : List (List ℕ) → List ℕ → ℕ → ℕ → ℕ → Shown
answered rows numbers i first end = let r = least_answer (ask_index (length rows) (cols_of rows) (lent_rows rows) numbers i first end) in finds r.code r.column

pub run : Example → Shown
run (program text) = writes (listing text)
run (labelled text) = counts_of (read_text text)
run (read text) = filled (read_into text)
run (lent text) = listed (label_lent (read_into text))
run (route text) = led (route_lent (read_into text))
run (block text number) = block_in number (read_text text)
run (calls rows ks) = left (run_session rows ks)
run (index rows) = held (built_of rows)
run (ask_built rows i first end) = answered rows (built_of rows).index i first end
run (ask_other rows numbers i first end) = answered rows numbers i first end
run (field s) = refuses (field_of (bytes s)).number

-- ---- the table

pub record Row : Type 0 where
  -- its P number
  pub p : ℕ
  pub example : Example
  pub shown : Shown

row : ℕ → Example → Shown → Row
row p example shown = record { p = p; example = example; shown = shown }

-- the calls of a session
activation : ℕ → ℕ → List ℕ
activation r v = 1 ∷ r ∷ v ∷ []

extraction : List ℕ
extraction = 2 ∷ 0 ∷ 0 ∷ []

-- an accepted session's buffers, whole
done : List ℕ → List ℕ → ℕ → ℕ → Shown
done answers kept inserted removed = leaves 0 (padded answer_places 0 answers) (padded interval_places unused_interval kept) inserted removed

-- what the reader leaves of the depot example with a first row of the table
depot_fills : List ℕ → Shown
depot_fills first =
    fills 0 5 1 1 no_target (padded size_places 0 (4 ∷ [])) (padded vertex_places 0 (1 ∷ 2 ∷ 3 ∷ 4 ∷ []))
    (padded length_places 0 (flat_map (padded row_places 0) (first ∷ (3 ∷ 0 ∷ 4 ∷ 6 ∷ []) ∷ (7 ∷ 4 ∷ 0 ∷ 2 ∷ []) ∷ (5 ∷ 6 ∷ 2 ∷ 0 ∷ []) ∷ [])))

-- what it leaves of a text that it refuses by a number
refused_by : ℕ → Shown
refused_by k = fills k 0 0 0 0 (replicate size_places 0) (replicate vertex_places 0) (replicate length_places 0)

-- a session that is refused by a number
undone : ℕ → Shown
undone k = leaves k (replicate answer_places filler) (replicate interval_places filler) 0 0

-- one row of five columns, two of them equal
five_columns : List (List ℕ)
five_columns = (3 ∷ 1 ∷ 1 ∷ 2 ∷ 0 ∷ []) ∷ []

-- one whose least column stands in the second half, before the half of that
falling_row : List (List ℕ)
falling_row = (3 ∷ 1 ∷ 0 ∷ 2 ∷ 5 ∷ []) ∷ []

-- P3's block, and P5's, which fails the check
two_by_two : List (List ℕ)
two_by_two = (5 ∷ 7 ∷ []) ∷ (6 ∷ 4 ∷ []) ∷ []

failing : List (List ℕ)
failing = (10 ∷ 7 ∷ []) ∷ (6 ∷ 4 ∷ []) ∷ []

-- a session on P3's block, accepted: calls; answers, kept intervals, inserted, removed
on_block : ℕ → List (List ℕ) → List ℕ → List ℕ → ℕ → ℕ → Row
on_block p ks answers kept inserted removed = row p (calls two_by_two ks) (done answers kept inserted removed)

-- the block that document 02, request 7, names: neighbouring corners pass it
unsound : List (List ℕ)
unsound = (5 ∷ no_path ∷ 0 ∷ []) ∷ (0 ∷ no_path ∷ 0 ∷ []) ∷ []

-- three rows of five columns, of which one is all no path
closed_column : List (List ℕ)
closed_column = (0 ∷ 1 ∷ no_path ∷ 3 ∷ 4 ∷ []) ∷ (2 ∷ 1 ∷ no_path ∷ 1 ∷ 2 ∷ []) ∷ (4 ∷ 3 ∷ no_path ∷ 1 ∷ 0 ∷ []) ∷ []

-- row 0 has no path to column 1
one_row_only : List (List ℕ)
one_row_only = (5 ∷ no_path ∷ []) ∷ (6 ∷ 4 ∷ []) ∷ []

-- one row with no path to three columns
closed_stretch : List (List ℕ)
closed_stretch = (3 ∷ no_path ∷ no_path ∷ no_path ∷ 1 ∷ []) ∷ []

pub table : List Row
table =
    row 1 (program (depot "     1\n")) (writes (bytes "        1        4        8        8\n        1        0\n        2        3\n        3        7\n        4        5\n        5        -\n"))
    ∷ row 1 (read (depot "     1\n")) (depot_fills (0 ∷ 3 ∷ 7 ∷ 5 ∷ []))
    ∷ row 1 (lent (depot "     1\n")) (lists 4 8 8 (padded label_places unreached (0 ∷ 3 ∷ 7 ∷ 5 ∷ [])))
    ∷ row 2 (labelled (depot "     5\n")) (counts 1 0 0)
    ∷ row 2 (lent (depot "     5\n")) (lists 1 0 0 (padded label_places unreached (unreached ∷ unreached ∷ unreached ∷ unreached ∷ 0 ∷ [])))
    ∷ row 3 (block (depot "     1\n") 1) (shows (1 ∷ 2 ∷ []) (4 ∷ 3 ∷ []) ((5 ∷ 7 ∷ []) ∷ (6 ∷ 4 ∷ []) ∷ []))
    ∷ on_block 3 [] [] [] 0 0
    ∷ row 4 (calls ((9 ∷ 7 ∷ []) ∷ (6 ∷ 4 ∷ []) ∷ []) []) (done [] [] 0 0)
    ∷ row 5 (calls failing []) (undone 7)
    ∷ on_block 6 (extraction ∷ []) (50 ∷ 0 ∷ 0 ∷ []) [] 0 0
    ∷ on_block 7 (activation 0 0 ∷ []) (0 ∷ 0 ∷ 0 ∷ []) (0 ∷ 0 ∷ 1 ∷ 0 ∷ 5 ∷ []) 1 0
    ∷ on_block 8 (activation 0 0 ∷ activation 1 3 ∷ []) (0 ∷ 0 ∷ 0 ∷ 0 ∷ 0 ∷ 0 ∷ []) (0 ∷ 0 ∷ 1 ∷ 0 ∷ 5 ∷ []) 1 0
    ∷ on_block 9 (activation 0 0 ∷ activation 1 2 ∷ []) (0 ∷ 0 ∷ 0 ∷ 0 ∷ 0 ∷ 0 ∷ []) (0 ∷ 0 ∷ 0 ∷ 0 ∷ 5 ∷ 1 ∷ 1 ∷ 1 ∷ 1 ∷ 6 ∷ []) 3 1
    ∷ on_block 10 (activation 0 0 ∷ activation 1 2 ∷ extraction ∷ []) (0 ∷ 0 ∷ 0 ∷ 0 ∷ 0 ∷ 0 ∷ 0 ∷ 0 ∷ 5 ∷ []) (1 ∷ 1 ∷ 1 ∷ 1 ∷ 6 ∷ []) 3 2
    ∷ on_block 11 (activation 0 0 ∷ extraction ∷ activation 1 4 ∷ []) (0 ∷ 0 ∷ 0 ∷ 0 ∷ 0 ∷ 5 ∷ 11 ∷ 0 ∷ 0 ∷ []) (0 ∷ 1 ∷ 1 ∷ 1 ∷ 7 ∷ []) 2 1
    ∷ on_block 11 (activation 0 0 ∷ extraction ∷ activation 1 5 ∷ []) (0 ∷ 0 ∷ 0 ∷ 0 ∷ 0 ∷ 5 ∷ 0 ∷ 0 ∷ 0 ∷ []) (0 ∷ 1 ∷ 1 ∷ 1 ∷ 7 ∷ []) 2 1
    ∷ row 12 (field "    00") (refuses 3)
    ∷ row 12 (program long_length) (writes (bytes "        1        4        8        8\n        1        0\n        2       11\n        3        7\n        4        5\n        5        -\n"))
    ∷ row 12 (read long_length) (depot_fills (0 ∷ 100000 ∷ 7 ∷ 5 ∷ []))
    ∷ row 12 (lent long_length) (lists 4 8 8 (padded label_places unreached (0 ∷ 11 ∷ 7 ∷ 5 ∷ [])))
    ∷ row 12 (read long_diagonal) (refused_by 6)
    ∷ row 13 (program (chain "     1     3\n")) (writes (bytes "        1        3       12        2\n        1        2        1        5\n        2        3        2        7\n"))
    ∷ row 13 (route (chain "     1     3\n")) (leads 0 12 2 (padded route_places 0 (1 ∷ 2 ∷ 1 ∷ 5 ∷ 2 ∷ 3 ∷ 2 ∷ 7 ∷ [])))
    ∷ row 13 (program (chain "     3     1\n")) (writes (bytes "        3        1       14        2\n        3        2        2        8\n        2        1        1        6\n"))
    ∷ row 13 (program (depot "     1     3\n")) (writes (bytes "        1        3        7        1\n        1        3        1        7\n"))
    ∷ row 13 (read (chain "     1     3\n"))
    (fills 0 4 2 1 3 (padded size_places 0 (2 ∷ 2 ∷ [])) (padded vertex_places 0 (padded row_places 0 (1 ∷ 2 ∷ []) ++ (2 ∷ 3 ∷ [])))
    (padded length_places 0 (padded table_places 0 (padded row_places 0 (0 ∷ 5 ∷ []) ++ (6 ∷ 0 ∷ [])) ++ (padded row_places 0 (0 ∷ 7 ∷ []) ++ (8 ∷ 0 ∷ [])))))
    ∷ row 14 (program (chain "     1     4\n")) (writes (bytes "        1        4        -        0\n"))
    ∷ row 14 (route (chain "     1     4\n")) (leads 0 unreached 0 (replicate route_places 0))
    ∷ row 15 (program (chain "     3     3\n")) (writes (bytes "        3        3        0        0\n"))
    ∷ row 15 (route (chain "     3     3\n")) (leads 0 0 0 (replicate route_places 0))
    ∷ row 16 (read (chain "     1     5\n")) (refused_by 12)
    ∷ row 16 (labelled (chain "     1     0\n")) (refuses 12)
    ∷ row 16 (program (chain "     1     5\n")) (writes (bytes "refused 12\n"))
    ∷ row 16 (route (chain "     1\n")) (leads 12 0 0 (replicate route_places filler))
    ∷ row 17 (read (chain "     5     5\n")) (refused_by 8)
    ∷ row 18 (labelled (chain "     5     3\n\n")) (refuses 8)
    ∷ row 18 (labelled (chain "     1     5\n\n")) (refuses 12)
    ∷ row 18 (read (chain "     1     3\n\n")) (refused_by 3)
    ∷ row 18 (labelled (chain "     5     5     1\n")) (refuses 3)
    ∷ row 18 (labelled (chain "     5     5")) (refuses 3)
    ∷ row 19 (index two_by_two) (holds 0 (padded index_places 0 (padded index_row_places 0 (0 ∷ []) ++ (1 ∷ []))))
    ∷ row 19 (index five_columns) (holds 0 (padded index_places 0 (4 ∷ 1 ∷ 4 ∷ 4 ∷ [])))
    ∷ row 19 (index falling_row) (holds 0 (padded index_places 0 (2 ∷ 1 ∷ 2 ∷ 3 ∷ [])))
    ∷ row 19 (index failing) (holds 7 (replicate index_places filler))
    ∷ row 20 (ask_built five_columns 0 0 5) (finds 0 4)
    ∷ row 20 (ask_built five_columns 0 0 4) (finds 0 1)
    ∷ row 20 (ask_built five_columns 0 1 3) (finds 0 1)
    ∷ row 20 (ask_built five_columns 0 2 4) (finds 0 2)
    ∷ row 20 (ask_built five_columns 0 3 4) (finds 0 3)
    ∷ row 20 (ask_built falling_row 0 1 5) (finds 0 2)
    ∷ row 20 (ask_built falling_row 0 1 4) (finds 0 2)
    ∷ row 21 (ask_built five_columns 0 2 2) (finds 50 0)
    ∷ row 21 (ask_built five_columns 0 4 6) (finds 50 0)
    ∷ row 21 (ask_built five_columns 1 0 5) (finds 50 0)
    ∷ row 21 (ask_other five_columns [] 0 0 5) (finds 1 0)
    ∷ row 21 (ask_other [] (replicate index_places 0) 0 0 1) (finds 4 0)
    ∷ row 22 (ask_other five_columns (padded index_places 0 (9 ∷ 9 ∷ 0 ∷ 9 ∷ [])) 0 0 5) (finds 0 0)
    ∷ row 22 (ask_other five_columns (padded index_places 0 (9 ∷ 9 ∷ 0 ∷ 9 ∷ [])) 0 1 5) (finds 0 1)
    ∷ row 23 (calls unsound []) (undone 7)
    ∷ row 23 (calls ((0 ∷ 0 ∷ []) ∷ (no_path ∷ no_path ∷ []) ∷ (0 ∷ 1 ∷ []) ∷ []) []) (undone 7)
    ∷ row 23 (calls ((0 ∷ no_path ∷ []) ∷ (no_path ∷ 0 ∷ []) ∷ []) []) (done [] [] 0 0)
    ∷ row 23 (calls ((no_path ∷ 0 ∷ []) ∷ (0 ∷ no_path ∷ []) ∷ []) []) (undone 7)
    ∷ row 23 (calls ((pred no_path ∷ []) ∷ []) []) (undone 6)
    ∷ row 24 (read (one_way "     3\n"))
    (fills 0 3 2 3 no_target (padded size_places 0 (2 ∷ 2 ∷ [])) (padded vertex_places 0 (padded row_places 0 (1 ∷ 2 ∷ []) ++ (2 ∷ 3 ∷ [])))
    (padded length_places 0 (padded table_places 0 (padded row_places 0 (0 ∷ no_path ∷ []) ++ (6 ∷ 0 ∷ [])) ++ (padded row_places 0 (0 ∷ 7 ∷ []) ++ (8 ∷ 0 ∷ [])))))
    ∷ row 24 (read (depot_with "     0-         7     5\n" "     1\n")) (refused_by 3)
    ∷ row 24 (read (depot_with "     0    --     7     5\n" "     1\n")) (refused_by 3)
    ∷ row 24 (read (depot_with "     0    -3     7     5\n" "     1\n")) (refused_by 3)
    ∷ row 25 (read (depot_with "     -     3     7     5\n" "     1\n")) (refused_by 6)
    ∷ row 26 (labelled (single "     1" "     1" "     1" "     1" "     1")) (counts 1 0 0)
    ∷ row 26 (labelled (single "     -" "     1" "     1" "     1" "     1")) (refuses 3)
    ∷ row 26 (labelled (single "     1" "     -" "     1" "     1" "     1")) (refuses 3)
    ∷ row 26 (labelled (single "     1" "     1" "     -" "     1" "     1")) (refuses 3)
    ∷ row 26 (labelled (single "     1" "     1" "     1" "     -" "     1")) (refuses 3)
    ∷ row 26 (labelled (single "     1" "     1" "     1" "     1" "     -")) (refuses 3)
    ∷ row 26 (read (one_way "     3     -\n")) (refused_by 3)
    ∷ row 26 (field "     -") (refuses 3)
    ∷ row 27 (program (one_way "     1\n")) (writes (bytes "        1        1        0        0\n        1        0\n        2        -\n        3        -\n"))
    ∷ row 27 (program (one_way "     3\n")) (writes (bytes "        3        3        3        3\n        1       14\n        2        8\n        3        0\n"))
    ∷ row 27 (lent (one_way "     1\n")) (lists 1 0 0 (padded label_places unreached (0 ∷ [])))
    ∷ row 27 (program (one_way "     1     3\n")) (writes (bytes "        1        3        -        0\n"))
    ∷ row 27 (route (one_way "     1     3\n")) (leads 0 unreached 0 (replicate route_places 0))
    ∷ row 28 (calls closed_column (activation 0 1 ∷ activation 2 1 ∷ [])) (done (0 ∷ 0 ∷ 0 ∷ 0 ∷ 0 ∷ 0 ∷ []) (0 ∷ 0 ∷ 1 ∷ 0 ∷ 1 ∷ 2 ∷ 3 ∷ 4 ∷ 4 ∷ 1 ∷ []) 3 1)
    ∷ row 28 (calls closed_column (activation 0 1 ∷ activation 2 1 ∷ activation 1 0 ∷ []))
    (done (0 ∷ 0 ∷ 0 ∷ 0 ∷ 0 ∷ 0 ∷ 0 ∷ 0 ∷ 0 ∷ []) (0 ∷ 0 ∷ 0 ∷ 0 ∷ 1 ∷ 1 ∷ 1 ∷ 1 ∷ 1 ∷ 1 ∷ 1 ∷ 3 ∷ 3 ∷ 3 ∷ 1 ∷ 2 ∷ 4 ∷ 4 ∷ 4 ∷ 1 ∷ []) 7 3)
    ∷ row 29 (calls ((5 ∷ no_path ∷ []) ∷ (6 ∷ no_path ∷ []) ∷ []) (activation 0 0 ∷ activation 1 0 ∷ extraction ∷ extraction ∷ []))
    (done (0 ∷ 0 ∷ 0 ∷ 0 ∷ 0 ∷ 0 ∷ 0 ∷ 0 ∷ 5 ∷ 50 ∷ 0 ∷ 0 ∷ []) [] 1 1)
    ∷ row 29 (calls one_row_only (activation 0 0 ∷ extraction ∷ extraction ∷ [])) (done (0 ∷ 0 ∷ 0 ∷ 0 ∷ 0 ∷ 5 ∷ 50 ∷ 0 ∷ 0 ∷ []) [] 1 1)
    ∷ row 29 (calls one_row_only (activation 0 0 ∷ extraction ∷ extraction ∷ activation 1 5 ∷ extraction ∷ []))
    (done (0 ∷ 0 ∷ 0 ∷ 0 ∷ 0 ∷ 5 ∷ 50 ∷ 0 ∷ 0 ∷ 0 ∷ 0 ∷ 0 ∷ 0 ∷ 1 ∷ 9 ∷ []) [] 2 2)
    ∷ row 30 (index closed_stretch) (holds 0 (padded index_places 0 (4 ∷ 0 ∷ 4 ∷ 4 ∷ [])))
    ∷ row 30 (ask_built closed_stretch 0 1 4) (finds 0 1)
    ∷ row 30 (ask_built closed_stretch 0 2 4) (finds 0 2)
    ∷ row 30 (ask_built closed_stretch 0 1 5) (finds 0 4)
    ∷ []

-- every row shows what document 01 says, from P7 on with the requests of document 02 that the head of this file names
pub examples : map (λ r. run r.example) table ≡ map (λ r. r.shown) table
unfolding bytes depot_with depot long_length long_diagonal chain one_way single depot_fills refused_by counts_of read_into filled label_lent listed route_lent led entries_of block_in run_session left run row activation extraction done undone on_block table flat_map all every mem different total up_from down_to padded within first_cause splits splits_of windows windows_of rows_of columns_of is_length metres_of plus at_most corners is_monge lesser least through parent available placed least_from adjoins joined prepend prepend_column runs intervals same_interval is_kept no_later put_in_order by_first_column count_new is_activated judge activate extract step extend trace_from trace entry size_of block_of blocks_of blocks_from blocks passes fresh_block apply least_of place_of activate_at activate_vertex label_of arc_of settle_as settle chosen place_in arc_at arc_into extract_from advance steps start columns labelling reached extractions insertions held_label labels arcs_to route_to judge_bounds judge_size judge_vertices judge_row judge_rows judge_blocks judge_source judge_target judge_piece piece_at pieces_of judge_from judge_network is_digit skip_blanks is_numeral numeral_value field_of is_dash length_of six_at read_field read_fields judge_line_end read_line read_rows read_piece piece_bytes read_pieces judge_end target_in question_of question_size judge_asked read_question read_body read_plan judge_length read_text sizes_of vertices_of table_of lengths_of has_places judge_buffers held_target after_read reading judge_labelling label_answer label_network judge_route arc_numbers arcs_of route_answer route_network rectangle_of judge_sides judge_rectangle judge_session judge_index_buffers judge_index build_index judge_question ask_index lent_rows cols_of built_of held answered five_columns falling_row two_by_two failing unsound closed_column one_row_only closed_stretch least_in column_of held_at row_index index_of in_stretch held_in ask call_at calls_of answers_of intervals_of session digits_of decimal right_justified nine_columns listing_line refusal_line state_listing route_listing question_listing plan_listing listing
examples = refl
