-- Laws of the judgement of a piece.
--   blocks_windows                the blocks of a piece pass exactly if those of its table do
--   blocks_same table_blocks      they ask for the size and the table only
--   piece_parts piece_lent        a piece of the lent buffers stands in its own parts of them, and is judged by these
use Rattle.std.specs.Prelude.{◌≡◌, refl, Bool, List, [], ◌∷◌, map, ℕ, zero, suc, ◌+◌, ◌*◌, ◌≤◌, ◌<◌, get_or, length, take, drop}
use Rattle.std.proofs.Common.{sym, ap, ◌∙◌, arith, eq-eqb, take-take, drop-drop}
use Rattle.definitions.specs.Limits.{max_size, row_places, table_places}
use Rattle.definitions.specs.Lists.{every, up_from, first_cause, Every}
use Rattle.definitions.specs.Network.{Piece, entry, size_of}
use Rattle.definitions.specs.Blocks.{Window, windows_of, rows_of, columns_of, block_of, blocks_of, passes}
use Rattle.definitions.specs.Monge.{is_monge}
use Rattle.definitions.specs.Judgement.{judge_size, judge_blocks, judge_piece, piece_at}
use Rattle.definitions.specs.Entries.{has_places}
use Rattle.definitions.proofs.Laws.CauseLaws.{passed, last, size_in_lem}
use Rattle.logic.specs.Tests.{Equal, equal, differ, equality}
use Rattle.splits.specs.Windows.{Inside}
use Rattle.splits.proofs.Windows.{windows_inside}
use Rattle.monge.specs.Matrix.{at, rows_in, passes_in}
use Rattle.basics.specs.Sequences.{length_up_from}
use Rattle.monge.specs.PieceTables.{block_passes}
use Rattle.basics.specs.PiecePlaces.{block_rows, block_cols}
use Rattle.judgements.specs.LentPieces.{piece_in, table_in, judge_table}

-- ---- blocks

every_same : {A : Type 0} (E : A → Type 0) (p q : A → Bool) (xs : List A) → ((x : A) → E x → p x ≡ q x) → Every E xs → every p xs ≡ every q xs
unfolding every
every_same E p q [] f h = refl
every_same E p q (x ∷ xs) f h = rw (f x h.0, every_same E p q xs f h.1)

every_of_map : {A B : Type 0} (p : B → Bool) (f : A → B) (xs : List A) → every p (map f xs) ≡ every (λ x. p (f x)) xs
unfolding every
every_of_map p f [] = refl
every_of_map p f (x ∷ xs) = rw (every_of_map p f xs)

pub blocks_windows : (m : ℕ) (lengths : List ℕ) (q : Piece) → size_of q ≡ m → q.rows ≡ rows_in m lengths → m ≤ max_size → length lengths ≡ table_places
    → every passes (blocks_of 0 q) ≡ every (passes_in lengths) (windows_of m)
unfolding blocks_of passes_in
blocks_windows m lengths q size same small full =
    rw size
    (every_of_map passes (block_of 0 q) (windows_of m)
    ∙ every_same (Inside m) _ _ (windows_of m) (λ w h. block_passes m lengths q same small 0 w h.rows_in h.cols_in_lem full) (windows_inside m small))

block_alike : (q q' : Piece) → q.rows ≡ q'.rows → (w : Window) → passes (block_of 0 q w) ≡ passes (block_of 0 q' w)
unfolding passes block_of entry
block_alike q q' same w =
    rw (block_rows 0 q w, block_rows 0 q' w, block_cols 0 q w, block_cols 0 q' w)
    (ap (λ (rows : List (List ℕ)). is_monge (λ i k. at rows (get_or (rows_of w) i 0) (get_or (columns_of w) k 0)) w.rows w.cols) same)

pub blocks_same : (q q' : Piece) → size_of q ≡ size_of q' → q.rows ≡ q'.rows → judge_blocks q ≡ judge_blocks q'
unfolding judge_blocks blocks_of
blocks_same q q' size same =
    rw (every_of_map passes (block_of 0 q) (windows_of (size_of q)), every_of_map passes (block_of 0 q') (windows_of (size_of q')), size)
    (simp (block_alike q q' same))

-- what the judgement of a table says of a piece that has it
pub table_blocks : (m : ℕ) (lengths : List ℕ) (q : Piece) → length lengths ≡ table_places → judge_size m ≡ 0 → size_of q ≡ m → q.rows ≡ rows_in m lengths
    → judge_table m lengths ≡ judge_blocks q
unfolding judge_table has_places table_in size_of
table_blocks m lengths q full size same rows =
    rw (eq-eqb (length lengths) table_places full)
    (passed 0 _ refl ∙ passed _ _ size ∙ last _ ∙ blocks_same (table_in m lengths) q (length_up_from 1 m ∙ sym same) (sym rows))

-- ---- places

-- a part of a part
part_part : (b m a : ℕ) (xs : List ℕ) → b + m ≤ a → take m (drop b (take a xs)) ≡ take m (drop b xs)
part_part zero m a xs l = take-take m a xs (omega arith)
part_part (suc b) m zero xs l = absurd (omega arith)
part_part (suc b) m (suc a) [] l = refl
part_part (suc b) m (suc a) (x ∷ xs) l = part_part b m a xs (omega arith)

map_agree : {A : Type 0} (f g : ℕ → A) (s n : ℕ) → ((i : ℕ) → i < s + n → f i ≡ g i) → map f (up_from s n) ≡ map g (up_from s n)
unfolding up_from
map_agree f g s zero h = refl
map_agree f g s (suc n) h = rw (h s (omega arith), map_agree f g (suc s) n (λ i l. h i (omega arith)))

-- piece d of the lent buffers stands in its own parts of them
pub piece_parts : (sizes vertices lengths : List ℕ) (d : ℕ) → get_or sizes d 0 ≤ max_size
    → piece_at sizes vertices lengths d ≡ piece_in (get_or sizes d 0) (take row_places (drop (row_places * d) vertices)) (take table_places (drop (table_places * d) lengths))
unfolding piece_at piece_in rows_in
piece_parts sizes vertices lengths d l =
    rw (take-take (get_or sizes d 0) row_places (drop (row_places * d) vertices) l, map_agree _ _ 0 (get_or sizes d 0) (row (get_or sizes d 0) l))
  where
    row : (m : ℕ) → m ≤ max_size → (i : ℕ) → i < 0 + m
        → take m (drop (table_places * d + row_places * i) lengths) ≡ take m (drop (row_places * i) (take table_places (drop (table_places * d) lengths)))
    row m l i h = rw (part_part (row_places * i) m table_places (drop (table_places * d) lengths) (omega arith), drop-drop (row_places * i) (table_places * d) lengths)

pub piece_lent : (n : ℕ) (sizes vertices lengths : List ℕ) (d : ℕ)
    → judge_piece n (get_or sizes d 0) (piece_at sizes vertices lengths d)
    ≡ judge_piece n (get_or sizes d 0) (piece_in (get_or sizes d 0) (take row_places (drop (row_places * d) vertices)) (take table_places (drop (table_places * d) lengths)))
unfolding judge_piece first_cause
piece_lent n sizes vertices lengths d = go (equality (judge_size (get_or sizes d 0)) 0)
  where
    go : Equal (judge_size (get_or sizes d 0)) 0
        → judge_piece n (get_or sizes d 0) (piece_at sizes vertices lengths d)
        ≡ judge_piece n (get_or sizes d 0) (piece_in (get_or sizes d 0) (take row_places (drop (row_places * d) vertices)) (take table_places (drop (table_places * d) lengths)))
    go (equal t h) = ap (judge_piece n (get_or sizes d 0)) (piece_parts sizes vertices lengths d (size_in_lem (get_or sizes d 0) h).1)
    go (differ t h) = rw t
