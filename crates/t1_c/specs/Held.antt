-- What a handle owns.
use Rattle.std.specs.Prelude.{◌≡◌, Option, Some, None}
use base.Fml.{Fml, ftrue, fex}
use denote.RattleType.{RattleType}
use denote.RawPtr.{Ptr, null_ptr}
use Rattle.std.specs.contracts.alloc.Global as heap
use Rattle.std.specs.contracts.impls.GlobalAllocator.TheImpl.{ghosts}
use Rattle.std_alloc.specs.Box.Ownership.{box_owns}

-- word: a box at a pointer, or null and nothing
abbrev pub held_at : (R : RattleType) → (heap.the_row).Denot → Ptr → Option R.Denot → Fml
held_at R a p (Some x) = box_owns (ghosts.dealloc_token a) R p x
held_at R a p None = fex (p ≡ null_ptr) (λ _. ftrue)
