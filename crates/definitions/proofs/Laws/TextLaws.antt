-- The whole text, its length judged first: both halves of `accepted_exactly` in the file Text, over LineProofs and LineBack.
use Rattle.std.specs.Prelude.{◌≡◌, List, ℕ, ◌≤◌, leb, length}
use Rattle.std.proofs.Common.{leb-true, le-leb}
use Rattle.definitions.specs.Limits.{max_text}
use Rattle.definitions.specs.Reading.{value, require, Plan, judge_length, read_text}
use Rattle.definitions.specs.Written.{written, SoundPlan}
use Rattle.definitions.proofs.Laws.CauseLaws.{test_holds}
use Rattle.definitions.proofs.Laws.ReadLaws.{bind_value, require_value}
use Rattle.definitions.proofs.Laws.LineProofs.{text_read}
use Rattle.definitions.proofs.Laws.LineBack.{text_back}

pub accepted_is : (text : List ℕ) (plan : Plan) → read_text text ≡ value plan → (length text ≤ max_text) × SoundPlan plan × (text ≡ written plan)
unfolding read_text judge_length
accepted_is text plan e =
    let a = bind_value (require (judge_length text)) _ plan e in
    let short = require_value (judge_length text) a.0 a.1 in
    let said = text_read text plan a.2 in
    (leb-true (length text) max_text (test_holds (leb (length text) max_text) 1 short), said.0, said.1)

pub accepted_back : (text : List ℕ) (plan : Plan) → (length text ≤ max_text) × SoundPlan plan × (text ≡ written plan) → read_text text ≡ value plan
unfolding read_text judge_length
accepted_back text plan h = rw (le-leb (length text) max_text h.0, h.2) (text_back plan h.1)
