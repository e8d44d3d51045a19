-- An accepted text's network is accepted where it is lent: the reader has judged what the labelling judges again.
--   shape_of              a piece that no cause turns away has the shape that the buffers hold
--   network_accepted      the buffers that the reader fills
--   no_target a_target    which target it returns: none, or one that was accepted
use Rattle.std.specs.Prelude.{◌≡◌, refl, List, [], ◌∷◌, ◌++◌, ◌≢◌, ℕ, suc, ◌≤◌, length}
use Rattle.std.proofs.Common.{sym, subst, append_assoc, arith, length-append}
use Rattle.std.proofs.Math.Option.{Option, none, some}
use Rattle.basics.specs.ListLaws.{every_append}
use Rattle.definitions.specs.Limits.{max_vertices, no_target as none_there}
use Rattle.definitions.specs.Lists.{first_cause, Every}
use Rattle.definitions.specs.Network.{Piece, size_of}
use Rattle.definitions.specs.Judgement.{judge_bounds, judge_size, judge_vertices, judge_rows, judge_blocks, judge_piece, judge_from, judge_network, judge_target}
use Rattle.definitions.specs.Reading.{judge_asked, Plan}
use Rattle.definitions.specs.Text.{sizes_of, vertices_of, lengths_of}
use Rattle.definitions.specs.Entries.{held_target}
use Rattle.definitions.proofs.Laws.CauseLaws.{no_cause, size_in_lem, bounds_in, target_in_lem}
use Rattle.definitions.specs.Written.{SoundPiece, SoundPlan}
use Rattle.text.specs.PieceReading.{Shaped}
use Rattle.text.specs.Back.{size_back, piece_back}

pub shape_of : (n : ℕ) (q : Piece) → SoundPiece n q → Shaped q
unfolding judge_piece
shape_of n q s =
    let causes = no_cause (judge_size (size_of q) ∷ judge_vertices n q.vertices ∷ judge_rows 0 q.rows ∷ judge_blocks q ∷ []) s.judgement in
    let size = size_in_lem (size_of q) causes.0 in
    record { low = size.0; high = size.1; tall = s.tall; wide = s.wide }

-- ---- the buffers

lent_from : (n : ℕ) (done rest : List Piece) → Every Shaped done → Every (SoundPiece n) rest
    → judge_from n (sizes_of (done ++ rest)) (vertices_of (done ++ rest)) (lengths_of (done ++ rest)) (length done) (length rest) ≡ 0
unfolding judge_from first_cause
lent_from n done [] before each = refl
lent_from n done (q ∷ rest) before each =
    let shift : done ++ q ∷ rest ≡ (done ++ q ∷ []) ++ rest = sym (append_assoc done (q ∷ []) rest) in
    let count : suc (length done) ≡ length (done ++ q ∷ []) = omega (arith, length-append done (q ∷ [])) in
    let shape = shape_of n q each.0 in
    let next = lent_from n (done ++ q ∷ []) rest (every_append Shaped done (q ∷ []) before (shape, tt)) each.1 in
    let here : judge_from n (sizes_of (done ++ q ∷ rest)) (vertices_of (done ++ q ∷ rest)) (lengths_of (done ++ q ∷ rest)) (suc (length done)) (length rest) ≡ 0 = subst (λ (l : List Piece). judge_from n (sizes_of l) (vertices_of l) (lengths_of l) (suc (length done)) (length rest) ≡ 0) (sym shift) (subst (λ (k : ℕ). judge_from n (sizes_of ((done ++ q ∷ []) ++ rest)) (vertices_of ((done ++ q ∷ []) ++ rest)) (lengths_of ((done ++ q ∷ []) ++ rest)) k (length rest) ≡ 0) (sym count) next) in
    rw (size_back done rest q before shape, piece_back done rest q before shape, each.0.judgement, here)

pub network_accepted : (n : ℕ) (qs : List Piece) → judge_bounds n (length qs) ≡ 0 → Every (SoundPiece n) qs → judge_network n (length qs) (sizes_of qs) (vertices_of qs) (lengths_of qs) ≡ 0
unfolding judge_network first_cause
network_accepted n qs bounds each = rw (bounds, lent_from n [] qs tt each)

-- ---- the target

-- No vertex has the number that is returned where there is no target, so that number tells both apart.
no_vertex : (n : ℕ) (target : ℕ) → n ≤ max_vertices → judge_target n target ≡ 0 → target ≢ none_there
no_vertex n target few h e = omega (arith, (target_in_lem n target h).1)

none_held : (n : ℕ) (target : Option ℕ) → n ≤ max_vertices → judge_asked n target ≡ 0 → held_target target ≡ none_there → target ≡ none
unfolding judge_asked held_target
none_held n none few h e = refl
none_held n (some target) few h e = absurd (no_vertex n target few h e)

some_held : (n : ℕ) (target : Option ℕ) → judge_asked n target ≡ 0 → held_target target ≢ none_there → (target ≡ some (held_target target)) × (judge_target n (held_target target) ≡ 0)
unfolding judge_asked held_target
some_held n none h e = absurd (e refl)
some_held n (some target) h e = (refl, h)

module _ (plan : Plan) (sound : SoundPlan plan) where
  pub no_target : held_target plan.target ≡ none_there → plan.target ≡ none
  no_target e = none_held plan.n plan.target (bounds_in plan.n (length plan.pieces) sound.bounds).0 sound.target_in_lem e

  pub a_target : held_target plan.target ≢ none_there → (plan.target ≡ some (held_target plan.target)) × (judge_target plan.n (held_target plan.target) ≡ 0)
  a_target e = some_held plan.n plan.target sound.target_in_lem e
