-- The exported question to an index: what it returns is the struct of the answer, and the answer is right in plain terms.
--   AsBuilt                the index is what building leaves
--   Asked AskedInStruct    what the question promises of its answer, and of the struct
--   in_struct              the struct of such an answer
use Rattle.std.specs.Prelude.{◌≡◌, List, ℕ}
use Rattle.std.proofs.Common.{refl, ap}
use Rattle.definitions.specs.declared.LeastAnswer.{LeastAnswer}
use Rattle.definitions.specs.Index.{Least, least_answer}
use Rattle.definitions.specs.Entries.{build_index, ask_index}
use Rattle.definitions.specs.PlainPromises.{PlainLeast}

module _ (rows cols : ℕ) (lengths index : List ℕ) (i first end : ℕ) where
  abbrev pub AsBuilt : Type 0 → Type 0
  AsBuilt P = (before : List ℕ) → (build_index rows cols lengths before).number ≡ 0 → index ≡ (build_index rows cols lengths before).index → P

  abbrev pub Asked : Least → Type 0
  Asked l = (l ≡ ask_index rows cols lengths index i first end) × AsBuilt (PlainLeast rows cols lengths i first end l)

  abbrev pub AskedInStruct : LeastAnswer → Type 0
  AskedInStruct r =
      (r ≡ least_answer (ask_index rows cols lengths index i first end))
      × AsBuilt ((l : Least) × (r ≡ least_answer l) × PlainLeast rows cols lengths i first end l)

  pub in_struct : (l : Least) → Asked l → AskedInStruct (least_answer l)
  in_struct l asked = (ap least_answer asked.0, λ before number built. (l, refl, asked.1 before number built))
