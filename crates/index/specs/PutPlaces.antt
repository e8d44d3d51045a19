-- Numbers put over the places of a list, and numbers that stand from a place on.
--   length_put set_put                       how long the list stays; one number before those that were put
--   put_inside put_before put_behind         what stands at a place
--   put_held                                 what was put stands there
--   holds_first .. holds_right               parts of what stands from a place on
use Rattle.std.specs.Prelude.{◌≡◌, List, ◌∷◌, ◌++◌, ℕ, suc, ◌+◌, ◌-◌, ◌≤◌, ◌<◌, set, take}
use Rattle.std.proofs.Common.{sym, ◌∙◌, append_assoc, length-drop, length-take-le, take-take, drop_at}
use Rattle.std.proofs.Math.Path.{ap}
use native.Mathlib.Omega.{arith}
use Rattle.std.proofs.Math.ListN.{get_or, length, drop, length-append, get_or-append}
use Rattle.std.proofs.lemmas.List.{set_split, take-append-le}
use Rattle.std.proofs.Math.Seq.{get_or-append-add, get_or-take, get_or-drop}
use Rattle.basics.specs.Buffers.{put}
use Rattle.index.specs.HeldRows.{HeldAt}

pub length_put : (l : List ℕ) (a : ℕ) (xs : List ℕ) → a + length xs ≤ length l → length (put l a xs) ≡ length l
unfolding put
length_put l a xs h =
    let e = length-append (take a l ++ xs) (drop (a + length xs) l) in
    let f = length-append (take a l) xs in
    let g = length-drop (a + length xs) l in
    let t = length-take-le a l (omega arith) in
    omega (arith, e, f, g, t)

-- one number stored before a list that was put
pub set_put : (l : List ℕ) (a x : ℕ) (xs : List ℕ) → a + 1 + length xs ≤ length l → set (put l (a + 1) xs) a x ≡ put l a (x ∷ xs)
unfolding put
set_put l a x xs h =
    let rest = xs ++ drop (a + 1 + length xs) l in
    let long : length (take (a + 1) l) ≡ a + 1 = length-take-le (a + 1) l (omega arith) in
    let e : suc a ≡ a + 1 = omega arith in
    let z : a + 1 + length xs ≡ a + suc (length xs) = omega arith in
    ap (λ (m : List ℕ). set m a x) (append_assoc (take (a + 1) l) xs (drop (a + 1 + length xs) l))
    ∙ set_split (take (a + 1) l ++ rest) a x (omega (arith, length-append (take (a + 1) l) rest, long))
    ∙ rw (e, take-append-le a (take (a + 1) l) rest (omega (arith, long)), take-take a (a + 1) l (omega arith), drop_at (take (a + 1) l) rest (a + 1) long, z)
    (sym (append_assoc (take a l) (x ∷ xs) (drop (a + suc (length xs)) l)))

-- ---- what stands at a place

module _ (l : List ℕ) (a : ℕ) (xs : List ℕ) (room : a ≤ length l) where
  front : length (take a l) ≡ a
  front = length-take-le a l room

  pub put_inside : (i : ℕ) → i < length xs → get_or (put l a xs) (a + i) 0 ≡ get_or xs i 0
  unfolding put
  put_inside i h =
      let rest = drop (a + length xs) l in
      let e : a + i ≡ length (take a l) + i = omega (arith, front) in
      get_or-append (take a l ++ xs) rest 0 (a + i) (omega (arith, front, length-append (take a l) xs)) ∙ rw e (get_or-append-add (take a l) xs i 0)

  pub put_before : (p : ℕ) → p < a → get_or (put l a xs) p 0 ≡ get_or l p 0
  unfolding put
  put_before p h =
      get_or-append (take a l ++ xs) (drop (a + length xs) l) 0 p (omega (arith, front, length-append (take a l) xs))
      ∙ get_or-append (take a l) xs 0 p (omega (arith, front))
      ∙ get_or-take a l p 0 h

  pub put_behind : (p : ℕ) → a + length xs ≤ p → get_or (put l a xs) p 0 ≡ get_or l p 0
  unfolding put
  put_behind p h =
      let i = p - (a + length xs) in
      let e : p ≡ length (take a l ++ xs) + i = omega (arith, front, length-append (take a l) xs) in
      let f : a + length xs + i ≡ p = omega arith in
      ap (λ (n : ℕ). get_or (put l a xs) n 0) e ∙ get_or-append-add (take a l ++ xs) (drop (a + length xs) l) i 0 ∙ get_or-drop (a + length xs) l i 0 ∙ rw f

  pub put_held : HeldAt (put l a xs) a xs
  put_held i h = put_inside i h

-- ---- parts of what stands from a place on

module _ (held : List ℕ) where
  pub holds_first : (p x : ℕ) (xs : List ℕ) → HeldAt held p (x ∷ xs) → get_or held p 0 ≡ x
  holds_first p x xs h = let e : p + 0 ≡ p = omega arith in rw e at (h 0 (omega arith))

  pub holds_rest : (p x : ℕ) (xs : List ℕ) → HeldAt held p (x ∷ xs) → HeldAt held (p + 1) xs
  holds_rest p x xs h i l = let e : p + 1 + i ≡ p + suc i = omega arith in rw e (h (suc i) (omega arith))

  pub holds_left : (p : ℕ) (xs ys : List ℕ) → HeldAt held p (xs ++ ys) → HeldAt held p xs
  holds_left p xs ys h i l = h i (omega (arith, length-append xs ys)) ∙ get_or-append xs ys 0 i l

  pub holds_right : (p : ℕ) (xs ys : List ℕ) → HeldAt held p (xs ++ ys) → HeldAt held (p + length xs) ys
  holds_right p xs ys h i l =
      let e : p + length xs + i ≡ p + (length xs + i) = omega arith in
      rw e (h (length xs + i) (omega (arith, length-append xs ys)) ∙ get_or-append-add xs ys i 0)
