-- `read_piece`: the size and the rest as the definition reads them. The two lent parts are the places of piece d, and the size goes to place d.
use Prim.Native.Nat.{ℕ, ◌+◌, ◌*◌, ◌-◌, ◌≤◌, ◌<◌}
use mathlib.Core.Path.{◌≡◌}
use native.Mathlib.Omega.{arith}
use borrow.Author.Rules.{rules}
use lib.ListN.{length, take, drop, replicate}
use mathlib.Core.List.{List}
use Rattle.definitions.specs.Limits.{row_places, table_places, size_places}
use Rattle.definitions.specs.Judgement.{judge_size}
use Rattle.definitions.specs.Fields.{field_at}
use Rattle.definitions.specs.Reading.{value, read_field}
use Rattle.text.specs.Padding.{part_size, part_long, part_put}
use Rattle.text.specs.ReadSteps.{judged, piece_stop}
use Rattle.text.specs.Returns.{stopped}
use Rattle.text.specs.PieceReading.{Sized, Room, size_facts, sizes_long, free_of, piece_unread, piece_read, table_few}
use Rattle.text.proofs.read_piece.Goals as goal

-- what its size says, and the places that are lent on
record Lent (text : List ℕ) (at m d : ℕ) (vertices lengths : List ℕ) : Type 0 where
  sized : Sized text at m
  clear : take table_places (drop (table_places * d) lengths) ≡ replicate table_places 0
  vertices_fit : row_places * d + m ≤ length vertices
  lengths_fit : table_places * d + table_places ≤ length lengths

lent : {text : List ℕ} {at m d : ℕ} {s v l : List ℕ} → (x : ℕ) × (judged judge_size (read_field field_at text at) ≡ value x) × (m ≡ x) → d < size_places → Room d s v l → Lent text at m d v l
lent {text} {at} {m} {d} {s} {v} {l} size below room =
    let f = size_facts text at m size in
    let free = free_of d s v l room below in
    record { sized = f; clear = free.clear; vertices_fit = omega (arith, f.high, free.all_vertices); lengths_fit = omega (arith, free.all_lengths) }

pub returns-in_err-size : goal.returns-in_err-size
returns-in_err-size c = λ qs count held. stopped _ _ _ _ c.from_residual.ensures.1 (piece_stop _ _ _ _ c.in_err-size.ensures)

pub slice_bounds-table-end : goal.slice_bounds-table-end
slice_bounds-table-end c =
    let f = lent c.in_ok-size.ensures c.requires.1 c.requires.2 in
    let fit = f.lengths_fit in
    search rules

pub slice_bounds-read_sized-end : goal.slice_bounds-read_sized-end
slice_bounds-read_sized-end c =
    let f = lent c.in_ok-size.ensures c.requires.1 c.requires.2 in
    let fit = f.vertices_fit in
    search rules

pub read_sized-requires : goal.read_sized-requires
read_sized-requires c =
    let f = lent c.in_ok-size.ensures c.requires.1 c.requires.2 in
    let m = part_size (row_places * c.args.d) c.in_ok-size.size _ f.vertices_fit in
    let all : table_places * c.args.d + table_places - table_places * c.args.d ≡ table_places = omega arith in
    (f.sized.inside, rw m f.sized.low, rw m f.sized.high, rw all f.clear)

pub returns-in_err-read_sized : goal.returns-in_err-read_sized
returns-in_err-read_sized c = λ qs count held.
    let f = lent c.in_ok-size.ensures c.requires.1 c.requires.2 in
    let m = part_size (row_places * c.args.d) c.in_ok-size.size _ f.vertices_fit in
    stopped _ _ _ _ c.from_residual-in_err-read_sized.ensures.1 (piece_unread _ _ _ _ c.in_ok-size.ensures _ m _ c.in_err-read_sized.ensures)

pub bounds-sizes-d : goal.bounds-sizes-d
bounds-sizes-d c =
    let full = sizes_long c.args.d c.args.sizes.now c.args.vertices.now c.args.lengths.now c.requires.2 (omega arith) in
    search rules

pub overflow_mul-result-2 : goal.overflow_mul-result-2
overflow_mul-result-2 c =
    let f = lent c.in_ok-size.ensures c.requires.1 c.requires.2 in
    let few = table_few c.in_ok-size.size f.sized.high in
    search rules

pub overflow_add-result-2 : goal.overflow_add-result-2
overflow_add-result-2 c =
    let f = lent c.in_ok-size.ensures c.requires.1 c.requires.2 in
    let few = table_few c.in_ok-size.size f.sized.high in
    search rules

pub returns : goal.returns
returns c = λ qs count held.
    let f = lent c.in_ok-size.ensures c.requires.1 c.requires.2 in
    let r = c.read_sized in
    let put_vertices = part_put (row_places * c.args.d) c.in_ok-size.size c.args.vertices.now r.new.vertices r.auto.vertices f.vertices_fit in
    let put_table = part_put (table_places * c.args.d) table_places c.args.lengths.now r.new.table r.auto.table f.lengths_fit in
    rw (put_vertices, put_table)
    (piece_read _ _ _ _ c.in_ok-size.ensures _ (part_size _ _ _ f.vertices_fit) _ _ _ (part_long _ _ _ r.new.vertices r.auto.vertices f.vertices_fit) c.in_ok-read_sized.ensures qs _ _ _ count c.requires.1 held)
