-- The laws of the texts of document 01, "Text layout", over the files `Reading` and `Written` of specs/: what an accepted text is, and what 6 is left for. The
-- proofs go over the folder `Laws`.
--   accepted_exactly                 what reading comes to: a text is accepted exactly if it is the lines of a plan that no cause turns away
--   no_length_too_long               no length field of a text is above the limit but one that says no path
--   refused_by_6_exactly             so a text is refused by 6 exactly if its first cause is a diagonal that is not 0
use Rattle.std.specs.Prelude.{◌≡◌, true, ◌↔◌, ℕ, ◌≤◌, length}
use mathlib.Core.List.{List}
use Rattle.definitions.specs.Limits.{max_text}
use Rattle.definitions.specs.Metres.{is_length}
use Rattle.definitions.specs.Fields.{length_at}
use Rattle.definitions.specs.Reading.{refused, value, Plan, read_text}
use Rattle.definitions.specs.Written.{written, SoundPlan, DiagonalFirst}
use Rattle.definitions.proofs.Laws.FieldKinds.{length_said}
use Rattle.definitions.proofs.Laws.TextLaws.{accepted_is, accepted_back}
use Rattle.definitions.proofs.Laws.Diagonal.{diagonal_is, diagonal_back}

-- Exactly the lines of a sound plan, one after the other: no place in the text has to be reckoned to say so.
pub accepted_exactly : (text : List ℕ) (plan : Plan) → read_text text ≡ value plan ↔ (length text ≤ max_text) × SoundPlan plan × (text ≡ written plan)
accepted_exactly text plan = (accepted_is text plan, accepted_back text plan)

-- ---- what 6 is left for (document 02, requests 1 and 7)

-- The largest length fills its field, and no path is no number. Other lengths above the limit are met in a lent network and in a session only.
pub no_length_too_long : (text : List ℕ) (at : ℕ) → is_length (length_at text at).value ≡ true
no_length_too_long = length_said

-- A row is then refused for its diagonal only, no path on it too, where no cause stands before it.
pub refused_by_6_exactly : (text : List ℕ) → read_text text ≡ refused 6 ↔ (length text ≤ max_text) × DiagonalFirst text
refused_by_6_exactly text = (diagonal_is text, diagonal_back text)
