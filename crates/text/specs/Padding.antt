-- A buffer of zeros that is filled from its front: `padded size 0 xs` holds xs.
--   part_size part_long part_put part_kept   a lent part: how long it is, and what it leaves
--   padded_inner   a part that is padded itself
use Rattle.std.specs.Prelude.{◌≡◌, List, ◌++◌, ℕ, ◌+◌, ◌-◌, ◌≤◌, take, drop, replicate}
use Rattle.std.proofs.Common.{sym, ◌∙◌, append_assoc, arith, length-append, length-drop, length-take-le}
use Rattle.std.proofs.Math.ListN.{length}
use Rattle.std.proofs.lemmas.List.{length-replicate, replicate-append-replicate}
use Rattle.std.proofs.Math.Seq.{drop-drop}
use borrow.Rule.Slice.PartMut.{same_len_mid}
use Rattle.definitions.specs.Lists.{padded}
use Rattle.basics.specs.Buffers.{put}

pub padded_inner : (size part : ℕ) (ys xs : List ℕ) → length xs ≤ part → length ys + part ≤ size → padded size 0 (ys ++ padded part 0 xs) ≡ padded size 0 (ys ++ xs)
unfolding padded
padded_inner size part ys xs h k =
    let n : length (ys ++ (xs ++ replicate (part - length xs) 0)) ≡ length ys + part = simp (length-append, length-replicate) (omega arith) in
    let m : length (ys ++ xs) ≡ length ys + length xs = length-append ys xs in
    let z : part - length xs + (size - (length ys + part)) ≡ size - (length ys + length xs) = (omega arith) in
    rw (n, m) (simp append_assoc (rw (replicate-append-replicate {A = ℕ} (part - length xs) (size - (length ys + part)) 0, z)))

-- ---- a lent part, the m places from a on

pub part_size : (a m : ℕ) (l : List ℕ) → a + m ≤ length l → length (take (a + m - a) (drop a l)) ≡ m
part_size a m l h =
    let z : a + m - a ≡ m = (omega arith) in
    rw z (length-take-le m (drop a l) (simp length-drop (omega arith)))

module _ (a m : ℕ) (l part : List ℕ) (lent : length part ≡ length (take (a + m - a) (drop a l))) (fits : a + m ≤ length l) where
  pub part_long : length part ≡ m
  part_long = lent ∙ part_size a m l fits

  pub part_put : take a l ++ (part ++ drop (a + m - a) (drop a l)) ≡ put l a part
  unfolding put
  part_put =
      let z : a + m - a ≡ length part = (omega (arith, part_long)) in
      rw (z, drop-drop (length part) a l) (sym (append_assoc (take a l) part (drop (a + length part) l)))

  pub part_kept : length (take a l ++ (part ++ drop (a + m - a) (drop a l))) ≡ length l
  part_kept = same_len_mid a (a + m - a) l part lent
