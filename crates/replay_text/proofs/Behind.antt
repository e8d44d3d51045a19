-- The text that is left behind numbers, taken byte by byte, one by one or many at a time.
use Rattle.std.proofs.Common.{◌≡◌, ◌∙◌, ap, sym, ℕ, zero, suc, ◌+◌, List, ◌∷◌, Option, Some, None, true, false, add-zero, add-one, arith, unwrap_or, is_some, rules}
use Rattle.std.specs.Char.{is_ascii_digit}
use Rattle.std.proofs.lemmas.Bool.{cond-true, cond-false}
use Rattle.replay_text.specs.TextNumbers.{appended, behind_from, behind_number, behind_numbers}

pub behind_digit : (number : Option ℕ) (b : ℕ) (bs : List ℕ) → is_ascii_digit b ≡ true
    → behind_from number (b ∷ bs) ≡ behind_from (Some (appended (unwrap_or number 0) b)) bs
behind_digit None b bs digit = cond-true _ _ _ digit
behind_digit (Some value) b bs digit = cond-true _ _ _ digit

pub behind_other : (number : Option ℕ) (b : ℕ) (bs : List ℕ) → is_ascii_digit b ≡ false → is_some number ≡ false
    → behind_from number (b ∷ bs) ≡ behind_from number bs
behind_other None b bs other none = cond-false _ _ _ other
behind_other (Some value) b bs other none = absurd (search rules)

pub behind_next : (k : ℕ) (text : List ℕ) → behind_number (behind_numbers k text) ≡ behind_numbers (k + 1) text
behind_next k text = ap (λ n. behind_numbers n text) (sym (add-one k))

pub behind_both : (n k : ℕ) (text : List ℕ) → behind_numbers n (behind_numbers k text) ≡ behind_numbers (k + n) text
behind_both zero k text = ap (λ n. behind_numbers n text) (sym (add-zero k))
behind_both (suc n) k text =
    let same : suc (k + n) ≡ k + suc n = omega arith in
    ap behind_number (behind_both n k text) ∙ ap (λ n. behind_numbers n text) same
