-- Document 01, "Causes that turn an input away": the number of each, and of a judgement. The law that this list names stands in the file `Causes` of proofs/.
--   number_of verdict         a cause, and a judgement that turns nothing away or gives a cause; no two judgements have one number
--   code_of                   why a call of a session is not done
use Rattle.std.specs.Prelude.{ℕ, ⊤, Result, Ok, Err}
use Rattle.definitions.specs.declared.Cause.{Cause}
use Rattle.definitions.specs.declared.Cause.TheVariants.{Buffer, Text, Layout, Bounds, Vertex, Length, Block, Source, Target}
use Rattle.definitions.specs.declared.Code.{Code}
use Rattle.definitions.specs.declared.Code.TheVariants.{Call, RowAgain, Label, Nothing}

abbrev pub number_of : Cause → ℕ
number_of Buffer = 1
number_of Text = 2
number_of Layout = 3
number_of Bounds = 4
number_of Vertex = 5
number_of Length = 6
number_of Block = 7
number_of Source = 8
number_of Target = 12

-- a judgement of the program: 0, or the number of the cause
abbrev pub verdict : Result ⊤ Cause → ℕ
verdict (Ok v) = 0
verdict (Err cause) = number_of cause

abbrev pub code_of : Code → ℕ
code_of Call = 9
code_of RowAgain = 10
code_of Label = 11
code_of Nothing = 50
