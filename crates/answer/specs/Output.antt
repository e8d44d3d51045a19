-- A buffer that is filled from its front: what the functions of `Output` need and leave.
--   Room                    room for so many bytes more
--   Puts puts_both          what a function that puts bytes leaves; bytes put one behind the other
--   none_put byte_put       no byte, one byte
--   bytes_put               bytes copied
use Rattle.std.specs.Prelude.{◌≡◌, refl, List, [], ◌∷◌, ◌++◌, ℕ, suc, ◌+◌, ◌≤◌, length, take, drop, set}
use Rattle.std.proofs.Common.{sym, ap, ◌∙◌, ◌-◌, add-one, arith, length-append, length-set, take_all}
use Rattle.std.proofs.Math.Seq.{append_snoc, paste}
use borrow.Rule.Slice.PartMut.{put_mid}
use Rattle.std.proofs.lemmas.Slice.{put_mid-paste}
use Rattle.std.proofs.lemmas.List.Edits.{length-paste}
use Rattle.std.proofs.lemmas.List.{set_split}
use Rattle.basics.specs.Buffers.{put, put_nothing, put_append}
use Rattle.answer.specs.declared.Output.{Output}

-- room for n bytes more
abbrev pub Room : Output → ℕ → Type 0
Room before n = before.len + n ≤ length before.bytes.now

-- the bytes stand behind those that stood there before, in the same lent buffer
pub record Puts (before : Output) (xs : List ℕ) (after : Output) : Type 0 where
  pub same_reference : after.bytes.ghost_name ≡ before.bytes.ghost_name
  pub behind : after.len ≡ before.len + length xs
  pub stands : after.bytes.now ≡ put before.bytes.now before.len xs
  pub long : length after.bytes.now ≡ length before.bytes.now

-- bytes, and others behind them
pub puts_both : {before mid after : Output} {xs ys : List ℕ} → Puts before xs mid → Puts mid ys after → before.len ≤ length before.bytes.now → Puts before (xs ++ ys) after
puts_both {before} {mid} {after} {xs} {ys} p q h = record {
  same_reference = q.same_reference ∙ p.same_reference;
  behind = omega (arith, p.behind, q.behind, length-append xs ys);
  stands = q.stands ∙ rw (p.behind, p.stands) (put_append before.bytes.now before.len xs ys h);
  long = q.long ∙ p.long;
}

-- none, so far
pub none_put : (before : Output) → Puts before [] before
none_put before = record { same_reference = refl; behind = omega arith; stands = sym (put_nothing before.bytes.now before.len); long = refl }

-- one byte
pub byte_put : (before after : Output) (b : ℕ) → Room before 1 → after.bytes.ghost_name ≡ before.bytes.ghost_name → after.len ≡ before.len + 1 → after.bytes.now ≡ set before.bytes.now before.len b → Puts before (b ∷ []) after
unfolding put
byte_put before after b room same behind written =
    let out = before.bytes.now in
    let at = before.len in
    record {
      same_reference = same;
      behind = behind;
      stands = written ∙ set_split out at b (omega arith) ∙ rw add-one (sym (append_snoc (take at out) b (drop (suc at) out)));
      long = ap length written ∙ length-set out at b;
    }

-- bytes copied over those from the end on
pub bytes_put : (before after : Output) (xs left : List ℕ) → Room before (length xs) → after.bytes.ghost_name ≡ before.bytes.ghost_name → after.len ≡ before.len + length xs → left ≡ xs
    → after.bytes.now ≡ put_mid before.len (before.len + length xs - before.len) before.bytes.now left → Puts before xs after
unfolding put
bytes_put before after xs left room same behind copied written =
    let out = before.bytes.now in
    let at = before.len in
    let pasted : after.bytes.now ≡ paste out at xs (length xs) = written ∙ put_mid-paste at (at + length xs - at) out left xs (length xs) copied (omega arith) refl in
    record {
      same_reference = same;
      behind = behind;
      stands = pasted ∙ rw (take_all (length xs) xs (omega arith)) refl;
      long = ap length pasted ∙ length-paste out at xs (length xs) (omega arith) (omega arith);
    }
