-- What a handle owns names no thread's token, so it says the same to each thread.
use base.Fraction.{full_share}
use base.Shift.{Keyless}
use mir.Raw.{raw}
use denote.Exit.{Exit, unchanged, leaves, hidden, under}
use denote.Memory.{lone}
use denote.RawPtr.{Ptr, block_ptr, null_ptr, lies_at}
use denote.Param.Send.{Quiet, part_keyless}
use Rattle.std.specs.declared.option.Option.{Option}
use Rattle.std.specs.declared.option.Option.TheVariants.{None, Some}
use Rattle.std.proofs.Crossing as crossing
use Rattle.graphql_schema_handles.specs.Held.{held, heap}
use Rattle.graphql_schema_handles.specs.contracts.sessions.Session.{the_row as R}
use Rattle.graphql_schema_handles.proofs.Sent.{session_send}

pub quiet : {D X : Type 0} (to : D → X) (e : Exit X) → Quiet e → Quiet (hidden (under to e))
quiet to unchanged q = λ x w. tt
quiet to (leaves L l S s r₀) q = λ d. q (to d)

lies : (p : Ptr) (x : R.Denot) → Keyless (lies_at R full_share p x)
lies (block_ptr b o) x = part_keyless R session_send full_share x b o
lies null_ptr x = tt

pub holds : (p : Ptr) (kept : Option R.Denot) → Keyless (held R p kept)
holds p None = tt
holds p (Some x) = (lies p x, crossing.frees.frees heap (raw (lone R.mir)) p)
