-- The law of the file `Index` of specs/: what is found in a stretch of a row. Its proof goes over the file `Laws/LeastLaws`.
--   least_in_lem              it is the lowest column of least length
use Rattle.std.specs.Prelude.{◌≡◌, refl, ℕ, ◌-◌, ◌<◌}
use Rattle.std.proofs.Common.{ap, arith}
use Rattle.definitions.specs.Best.{Best, nobody, by}
use Rattle.definitions.specs.Index.{least_in, IsLeast}
use Rattle.definitions.proofs.Laws.LeastLaws.{least_lowest}

-- What is found is that column, with its length.
pub least_in_lem : (row : ℕ → ℕ) (first end column n : ℕ) → first < end → least_in row first (end - first) ≡ by column n → IsLeast row first end column
unfolding least_in
least_in_lem row first end column n some found =
    let f = least_lowest (λ c. by c (row c)) first (end - first) column n found in
    let e : row column ≡ n = ap length_of f.here in
    record {
      low = f.low;
      high = omega (arith, f.high);
      no_less = λ c a b. rw e (f.no_less c c (row c) a (omega arith) refl);
      no_lower = λ c a b. rw e (f.no_lower c c (row c) a b refl);
    }
  where
    length_of : Best → ℕ
    length_of nobody = 0
    length_of (by c n) = n
