-- `store_rows` stores a row a turn, in a buffer of zeros.
use Rattle.std.proofs.Common.{◌≡◌, List, [], ℕ, ◌+◌, ◌-◌, ◌*◌, ◌++◌, length, take, drop, replicate, ap, sym, ◌∙◌, arith, rules, append_assoc, drop-drop, length-take-le, get_or-take}
use Rattle.basics.specs.Buffers.{put}
use Rattle.index.specs.IndexRows.{stored_none, stored_more, length_stored}
use Rattle.index.proofs.entries.store_rows.Goals as goal

-- a part of a buffer, written anew
placed : (l xs : List ℕ) (a n : ℕ) → n ≡ length xs → take a l ++ (xs ++ drop n (drop a l)) ≡ put l a xs
unfolding put
placed l xs a n e = rw (drop-drop n a l, e) (sym (append_assoc (take a l) xs (drop (a + length xs) l)))

pub loop-i-init : goal.loop-i-init
loop-i-init c =
    let cleared : c.fill.new.self ≡ replicate (length c.args.index.now) 0 = search rules in
    record { sized = search rules; stored = stored_none c.args.held.now _ (rw c.requires.2 at cleared) }

pub loop-i-preserved : goal.loop-i-preserved
loop-i-preserved c =
    let a = c.args in
    let l = c.loop-i in
    let few = length-take-le a.rows a.held.now (omega arith) in
    let part = placed l.index c.copy_from_slice.new.self (23 * l.i) (23 * l.i + 23 - 23 * l.i) (omega arith) in
    let row = get_or-take a.rows a.held.now l.i [] (omega arith) in
    let more = stored_more a.held.now c.requires.1 c.told-held l.i l.index _ (omega arith) l.invariant.stored (part ∙ ap (λ (row : List ℕ). put l.index (23 * l.i) row) (c.copy_from_slice.ensures.after ∙ row)) in
    record { sized = ap length more ∙ length_stored a.held.now c.requires.1 c.told-held (l.i + 1) (omega arith); stored = more }
