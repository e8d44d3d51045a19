-- `Numbers::fill`: one place more holds its number.
use Rattle.std.proofs.Common.{◌≡◌, ◌∙◌, ap, ℕ, ◌+◌, ◌<◌, List, length, get_or, set, drop, add-zero, arith}
use Rattle.std.proofs.lemmas.List.{drop-drop, get_or-drop, get_or-set_other}
use Rattle.std.proofs.lemmas.Grind.{get_or-set_at}
use Rattle.replay_text.specs.TextNumbers.{behind_number, numbers_left, text_left}
use Rattle.replay_text.proofs.Behind.{behind_next}
use Rattle.replay_text.proofs.Numbers.fill.Goals as goal

filled_more : (xs ns : List ℕ) (i x : ℕ) → i < length xs → x ≡ get_or ns i 0 → ((k : ℕ) → k < i → get_or xs k 0 ≡ get_or ns k 0)
    → (k : ℕ) → k < i + 1 → get_or (set xs i x) k 0 ≡ get_or ns k 0
filled_more xs ns i x inside e before k b = grind (arith, get_or-set_at, get_or-set_other, before k)

pub loop-place-preserved : goal.loop-place-preserved
loop-place-preserved c =
    let i = c.loop-place.place-index in
    let ns = numbers_left c.args.self.now in
    let left : numbers_left c.loop-place.self ≡ drop i ns = c.loop-place.invariant.0 in (
      c.number.ensures.others ∙ ap (drop 1) left ∙ drop-drop 1 i ns,
      c.number.ensures.text ∙ ap behind_number c.loop-place.invariant.1 ∙ behind_next i (text_left c.args.self.now),
      filled_more c.loop-place.places ns i c.number.result (omega (arith, c.loop-place-test.true, c.loop-place.auto.places))
          (c.number.ensures.value ∙ ap (λ l. get_or l 0 0) left ∙ get_or-drop i ns 0 0 ∙ ap (λ k. get_or ns k 0) (add-zero i))
          c.loop-place.invariant.2,
    )
