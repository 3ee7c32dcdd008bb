-- `acting::act` meets its contract: at each arm the command that was called leaves what the definition says of the variant matched.
use Prim.Native.Nat.{◌+◌, ◌*◌}
use mathlib.Core.List.{[]}
use mathlib.Core.Path.{ap, ◌∙◌}
use native.Mathlib.Omega.{arith}
use Rattle.card.specs.Answers.{reply}
use Rattle.card.specs.Play.{act}
use Rattle.card.specs.Select.{get_response}
use Rattle.card.specs.Sessions.{dropped}
use Rattle.card.specs.declared.Instruction.TheVariants.{Select, Status, ReadBinary, UpdateBinary, ReadRecord, UpdateRecord, Seek, Increase, Verify, Change, Disable, Enable, Unblock, Invalidate, Rehabilitate, Sleep, GetResponse, Unknown}
use Rattle.card.specs.declared.Session.{Session}
use Rattle.commands.specs.Gives.{brief}
use Rattle.acts.proofs.Kept.{tells}
use Rattle.acting.proofs.Choices.{chosen, selects, as_many, alone}
use Rattle.acting.proofs.Taking.{seeks, verifies, changes, disables, enables, unblocks, increases, asks, waiting}
use Rattle.acting.proofs.act.Goals as goal

pub status-requires : goal.status-requires
unfolding act
status-requires c = record { ready = c.requires.ready; n_bound = (asks c.requires.right c.in-Status.is, omega arith) }

pub seek_record-requires : goal.seek_record-requires
unfolding act
seek_record-requires c = record { ready = c.requires.ready; mode_bound = seeks c.requires.right c.in-Seek.is }

pub increase_by-requires : goal.increase_by-requires
unfolding act
increase_by-requires c = record { ready = c.requires.ready; added_len = increases c.requires.right c.in-Increase.is }

pub overflow_sub-q : goal.overflow_sub-q
unfolding act
overflow_sub-q c = omega (arith, (verifies c.requires.right c.in-Verify.is).0)

pub verify-requires : goal.verify-requires
unfolding act
verify-requires c = record { ready = c.requires.ready; c_bound = (verifies c.requires.right c.in-Verify.is).1 }

pub overflow_sub-q-in-Change : goal.overflow_sub-q-in-Change
unfolding act
overflow_sub-q-in-Change c = omega (arith, (changes c.requires.right c.in-Change.is).0)

pub change-requires : goal.change-requires
unfolding act
change-requires c = record { ready = c.requires.ready; c_bound = (changes c.requires.right c.in-Change.is).1 }

pub disable-requires : goal.disable-requires
unfolding act
disable-requires c = record { ready = c.requires.ready; given_len = disables c.requires.right c.in-Disable.is }

pub enable-requires : goal.enable-requires
unfolding act
enable-requires c = record { ready = c.requires.ready; given_len = enables c.requires.right c.in-Enable.is }

pub unblock-requires : goal.unblock-requires
unfolding act
unblock-requires c = record { ready = c.requires.ready; c_bound = unblocks c.requires.right c.in-Unblock.is }

pub get_response-requires : goal.get_response-requires
unfolding act
get_response-requires c = (waiting _ _ c.requires.ready, omega arith)

pub returns-in-Select : goal.returns-in-Select
unfolding act
returns-in-Select c = let a = c.args in
    chosen a.image.now a.s a.i a.p a.q a.n a.body.now _ a.image.now a.room.now a.room.now Select c.in-Select.is
    (selects a.image.now a.s _ a.room.now c.word_at.ensures c.select.ensures)

pub returns-in-Status : goal.returns-in-Status
unfolding act
returns-in-Status c = let a = c.args in
    chosen a.image.now a.s a.i a.p a.q a.n a.body.now _ a.image.now a.room.now _ Status c.in-Status.is
    c.status.ensures

pub returns-in-ReadBinary : goal.returns-in-ReadBinary
unfolding act
returns-in-ReadBinary c = let a = c.args in
    chosen a.image.now a.s a.i a.p a.q a.n a.body.now _ a.image.now a.room.now _ ReadBinary c.in-ReadBinary.is
    (as_many a.image.now a.s _ (a.p * 256 + a.q) a.room.now _ c.wanted.ensures.0 c.read_binary.ensures)

pub returns-in-UpdateBinary : goal.returns-in-UpdateBinary
unfolding act
returns-in-UpdateBinary c = let a = c.args in
    chosen a.image.now a.s a.i a.p a.q a.n a.body.now _ _ a.room.now a.room.now UpdateBinary c.in-UpdateBinary.is
    (c.update_binary.ensures a.room.now)

pub returns-in-ReadRecord : goal.returns-in-ReadRecord
unfolding act
returns-in-ReadRecord c = let a = c.args in
    chosen a.image.now a.s a.i a.p a.q a.n a.body.now _ a.image.now a.room.now _ ReadRecord c.in-ReadRecord.is
    c.read_record.ensures

pub returns-in-UpdateRecord : goal.returns-in-UpdateRecord
unfolding act
returns-in-UpdateRecord c = let a = c.args in
    chosen a.image.now a.s a.i a.p a.q a.n a.body.now _ _ a.room.now a.room.now UpdateRecord c.in-UpdateRecord.is
    (c.update_record.ensures a.room.now)

pub returns-in-Seek : goal.returns-in-Seek
unfolding act
returns-in-Seek c = let a = c.args in
    chosen a.image.now a.s a.i a.p a.q a.n a.body.now _ a.image.now a.room.now a.room.now Seek c.in-Seek.is
    (c.seek_record.ensures a.room.now)

pub returns-in-Increase : goal.returns-in-Increase
unfolding act
returns-in-Increase c = let a = c.args in
    chosen a.image.now a.s a.i a.p a.q a.n a.body.now _ _ a.room.now a.room.now Increase c.in-Increase.is
    (c.increase_by.ensures a.room.now)

pub returns-in-Verify : goal.returns-in-Verify
unfolding act
returns-in-Verify c = let a = c.args in
    chosen a.image.now a.s a.i a.p a.q a.n a.body.now _ _ a.room.now a.room.now Verify c.in-Verify.is
    (c.verify.ensures a.room.now)

pub returns-in-Change : goal.returns-in-Change
unfolding act
returns-in-Change c = let a = c.args in
    chosen a.image.now a.s a.i a.p a.q a.n a.body.now _ _ a.room.now a.room.now Change c.in-Change.is
    (c.change.ensures a.room.now)

pub returns-in-Disable : goal.returns-in-Disable
unfolding act
returns-in-Disable c = let a = c.args in
    chosen a.image.now a.s a.i a.p a.q a.n a.body.now _ _ a.room.now a.room.now Disable c.in-Disable.is
    (c.disable.ensures a.room.now)

pub returns-in-Enable : goal.returns-in-Enable
unfolding act
returns-in-Enable c = let a = c.args in
    chosen a.image.now a.s a.i a.p a.q a.n a.body.now _ _ a.room.now a.room.now Enable c.in-Enable.is
    (c.enable.ensures a.room.now)

pub returns-in-Unblock : goal.returns-in-Unblock
unfolding act
returns-in-Unblock c = let a = c.args in
    chosen a.image.now a.s a.i a.p a.q a.n a.body.now _ _ a.room.now a.room.now Unblock c.in-Unblock.is
    (c.unblock.ensures a.room.now)

pub returns-in-Invalidate : goal.returns-in-Invalidate
unfolding act
returns-in-Invalidate c = let a = c.args in
    chosen a.image.now a.s a.i a.p a.q a.n a.body.now _ _ a.room.now a.room.now Invalidate c.in-Invalidate.is
    (c.invalidate.ensures a.room.now)

pub returns-in-Rehabilitate : goal.returns-in-Rehabilitate
unfolding act
returns-in-Rehabilitate c = let a = c.args in
    chosen a.image.now a.s a.i a.p a.q a.n a.body.now _ _ a.room.now a.room.now Rehabilitate c.in-Rehabilitate.is
    (c.rehabilitate.ensures a.room.now)

pub returns-in-Sleep : goal.returns-in-Sleep
unfolding act
returns-in-Sleep c = let a = c.args in
    chosen a.image.now a.s a.i a.p a.q a.n a.body.now _ a.image.now a.room.now a.room.now Sleep c.in-Sleep.is
    (alone a.image.now a.s _ (dropped a.s) 0x9000 c.requires.ready (c.silent.ensures ∙ ap (λ (s : Session). brief (reply [] 0x9000 s)) c.dropped.ensures) a.room.now)

pub returns-in-GetResponse : goal.returns-in-GetResponse
unfolding act
returns-in-GetResponse c = let a = c.args in
    chosen a.image.now a.s a.i a.p a.q a.n a.body.now _ a.image.now a.room.now _ GetResponse c.in-GetResponse.is
    (tells c.requires.ready (get_response a.s a.n) _ a.room.now _ c.get_response.ensures)

pub returns-in-Unknown : goal.returns-in-Unknown
unfolding act
returns-in-Unknown c = let a = c.args in
    chosen a.image.now a.s a.i a.p a.q a.n a.body.now _ a.image.now a.room.now a.room.now Unknown c.in-Unknown.is
    (alone a.image.now a.s _ (dropped a.s) 0x6d00 c.requires.ready (rw c.from.ensures at c.refusal.ensures) a.room.now)
