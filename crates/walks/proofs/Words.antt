-- The words of a walk, passed on from the logic and from the laws beside this file, so that a walk names one file. Assumes nothing.
pub use seplogic.Ra.Ura.{Ura}
pub use base.Fraction.{left as left_half, right as right_half}
pub use mir.Syntax.{named, erased, w8, w64, w32}
pub use mir.Val.{Val, vint, vptr}
pub use base.Logic.{SProp, id⊢}
pub use base.Fml.{Lft, Share, ftrue, flft}
pub use prog.Memory.{Memory}
pub use prog.Routine.{Routine}
pub use prog.Wp.{Heap, Calls, Loops}
pub use ghost.Atoms.{Atoms}
pub use sound.WpLaws.{FmC}
pub use contract.BorrowLft.{meet_⊑_right}
pub use contract.Monad.{Fun}
pub use denote.Builtin.{u8, i32, usize}
pub use denote.Laws.{Is}
pub use denote.Plain.{uint_Tells, uint_Makes, uint_Lawful}
pub use denote.RattleType.{owns}
pub use denote.Ref.{Bor, MutBor, NamedLft, MutRef}
pub use denote.Signature.{named_lft}
pub use denote.Slice.{slice_val, ShrSlice, MutSlice, shr_slice_Lawful, shr_slice_Tells}
pub use denote.Steps.{owned, nothing}
pub use denote.Triple.Statement.{Triple}
pub use denote.Triple.Table.{cited}
pub use denote.Triple.Walked.{says}
pub use types.Logic.{Logic}
pub use types.Kit.{‵, ◌⊛◌, ◌$◌, ◌∵◌, !, qed, move, drop, use1, split, join, fsplit, fjoin, feq_l, frame, done, by, keep, raw, use2, rewrite}
pub use types.Part.{agg, whole, sub, look_in, store_in}
pub use types.Run.{look, stop, hop, fld, from, addr, and_then, no_more, of_opd, returns, load, assigns}
pub use Rattle.walks.proofs.Params.{Params, number, shared, passed_on, lent, copied}
pub use Rattle.walks.proofs.Locals.{enters, leaves, seats}
pub use Rattle.walks.proofs.Statements.{whole_of, field_of_lem, puts, lands_in}
pub use Rattle.walks.proofs.Calls.{Callee, calls_by}
pub use Rattle.walks.proofs.Lent.{borrowed, given_back}
pub use Rattle.walks.proofs.Loans.{within, over, lends, is_back}
pub use Rattle.walks.proofs.Ends.{Walk, ends, proved}
