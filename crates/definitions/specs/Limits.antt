-- The limits of documents 01 and 02, each number under one name, and the two operations on lengths. What follows from another number is computed from it.
--   max_vertices max_pieces max_size max_length max_label   of a network
--   max_arcs                                            of a route
--   max_side max_calls max_text                           of a session and of a text
--   row_places .. interval_places, line_places            the sizes of the lent buffers
--   column_bytes line_fields last_place                   a field that is written; the fields of a line, and the last of them
--   call_size answer_size interval_size arc_size           how many numbers a call, an answer, an interval and an arc are
--   unreached no_target unused_interval no_path           what stands where there is no label, no target, no interval, no path
--   sum below                                          a label and a length; the order of sums
-- Each comment names the section of 01, or the request of 02, that the lines below it state.
use Rattle.std.specs.Prelude.{Bool, ℕ, ◌+◌, ◌-◌, ◌*◌, ltb}

-- (01, The tables and what is made of them) n, p, m and a length are at most these; n, p and m are at least 1.
abbrev pub max_vertices : ℕ
max_vertices = 256

abbrev pub max_pieces : ℕ
max_pieces = 16

abbrev pub max_size : ℕ
max_size = 24

-- (02, request 1) It fills a field of a text.
abbrev pub max_length : ℕ
max_length = 999999

-- A shortest walk has at most one arc fewer than there are vertices. No activation may bring a larger label.
abbrev pub max_label : ℕ
max_label = (max_vertices - 1) * max_length

-- (01, The heap of one block) The sides of a session's rectangle, at most those of a piece's table, and its calls.
abbrev pub max_side : ℕ
max_side = max_size

abbrev pub max_calls : ℕ
max_calls = 64

-- (01, Text layout) The bytes of a text.
abbrev pub max_text : ℕ
max_text = 60000

-- The places of one row and of one piece's table in the buffers below.
abbrev pub row_places : ℕ
row_places = max_size

abbrev pub table_places : ℕ
table_places = max_size * row_places

-- (01, Text layout) The buffers of a network: 16 sizes, 384 vertices, 9,216 lengths.
abbrev pub size_places : ℕ
size_places = max_pieces

abbrev pub vertex_places : ℕ
vertex_places = max_pieces * row_places

abbrev pub length_places : ℕ
length_places = max_pieces * table_places

-- (01, The labelling) The label buffer.
abbrev pub label_places : ℕ
label_places = max_vertices

-- (02, request 4) A route passes no vertex twice. Four numbers are an arc: from vertex, to vertex, piece, length. The buffer of a route has 1,020 places.
abbrev pub max_arcs : ℕ
max_arcs = max_vertices - 1

abbrev pub arc_size : ℕ
arc_size = 4

abbrev pub route_places : ℕ
route_places = arc_size * max_arcs

-- (01, The heap of one block) Three numbers are a call and an answer.
abbrev pub call_size : ℕ
call_size = 3

abbrev pub answer_size : ℕ
answer_size = 3

-- (02, request 3) Five are an interval: its parent, its first and last column, and its best, a column and a sum.
abbrev pub interval_size : ℕ
interval_size = 5

-- (01, The heap of one block) A session's buffers: 576 lengths, 192 numbers of calls and of answers; 120 of intervals (02, request 3).
abbrev pub rectangle_places : ℕ
rectangle_places = max_side * row_places

-- (02, request 5) The index of a rectangle, 552 places: one fewer for each row than it has columns.
abbrev pub index_row_places : ℕ
index_row_places = row_places - 1

abbrev pub index_places : ℕ
index_places = max_side * index_row_places

abbrev pub call_places : ℕ
call_places = call_size * max_calls

abbrev pub answer_places : ℕ
answer_places = answer_size * max_calls

-- no two intervals share a column, so there is room for all
abbrev pub interval_places : ℕ
interval_places = interval_size * max_side

-- (01, Text layout) A field that is written has nine columns; a lent line has four such fields, at the places 0 to 3.
abbrev pub column_bytes : ℕ
column_bytes = 9

abbrev pub line_fields : ℕ
line_fields = 4

abbrev pub line_places : ℕ
line_places = line_fields * column_bytes

abbrev pub last_place : ℕ
last_place = line_fields - 1

-- (01, The labelling) It stands where no label is: the largest number of 32 bits.
abbrev pub unreached : ℕ
unreached = 4294967295

-- (02, request 4) The text reader returns it where a question has no target.
abbrev pub no_target : ℕ
no_target = 4294967295

-- (02, request 7) It stands in a table where no run exists inside the piece; in a text that is `-`.
abbrev pub no_path : ℕ
no_path = 4294967295

-- (01, The heap of one block) It fills the unused places of the interval buffer.
abbrev pub unused_interval : ℕ
unused_interval = 255

-- (01, The heap of one block) A column's sum through a row is the row's label plus the entry.
abbrev pub sum : ℕ → ℕ → ℕ
sum label length = label + length

-- A later sum wins only where it is strictly smaller.
abbrev pub below : ℕ → ℕ → Bool
below a b = ltb a b
