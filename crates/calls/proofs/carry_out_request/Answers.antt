use Rattle.rules.specs.Step.{act}
use Rattle.call_form.specs.Requests.{call_of}
use Rattle.calls.proofs.CallLaws as law
use Rattle.calls.proofs.carry_out_request.Goals as goal

pub write_row-requires : goal.write_row-requires
write_row-requires c =
    (law.insert_call c.args.schema.now.bytes c.args.area.now c.args.call.now c.args.request c.requires.0 c.requires.1.0 c.in-Insert.is, c.requires.1.1)

pub write_row-requires-in-Update : goal.write_row-requires-in-Update
write_row-requires-in-Update c =
    (law.update_call c.args.schema.now.bytes c.args.area.now c.args.call.now c.args.request c.requires.0 c.requires.1.0 c.in-Update.is, c.requires.1.1)

pub delete_row-requires : goal.delete_row-requires
delete_row-requires c =
    (law.delete_call c.args.schema.now.bytes c.args.area.now c.args.call.now c.args.request c.requires.0 c.requires.1.0 c.in-Delete.is, c.requires.1.1)

pub release-requires : goal.release-requires
release-requires c =
    (c.requires.0.ready, (law.release_call c.args.schema.now.bytes c.args.area.now c.args.call.now c.args.request c.requires.0 c.requires.1.0 c.in-Release.is, c.requires.1.1))

pub rollback_to-requires : goal.rollback_to-requires
rollback_to-requires c =
    (c.requires.0, law.rollback_call c.args.schema.now.bytes c.args.area.now c.args.call.now c.args.request c.requires.0 c.requires.1.0 c.in-RollbackTo.is)

pub delete_where-requires : goal.delete_where-requires
delete_where-requires c =
    (law.delete_found_call c.args.schema.now.bytes c.args.area.now c.args.call.now c.args.request c.requires.0 c.requires.1.0 c.in-DeleteWhere.is, c.requires.1.1)

pub update_where-requires : goal.update_where-requires
update_where-requires c =
    let found = law.update_found_call c.args.schema.now.bytes c.args.area.now c.args.call.now c.args.request c.requires.0 c.requires.1.0 c.in-UpdateWhere.is in
    (found.0, (found.1, c.requires.1.1))

pub returns-in-Insert : goal.returns-in-Insert
unfolding call_of act
returns-in-Insert c = rw c.in-Insert.is c.write_row.ensures

pub returns-in-Update : goal.returns-in-Update
unfolding call_of act
returns-in-Update c = rw c.in-Update.is c.write_row-in-Update.ensures

pub returns-in-Delete : goal.returns-in-Delete
unfolding call_of act
returns-in-Delete c = rw c.in-Delete.is c.delete_row.ensures

pub returns-in-Begin : goal.returns-in-Begin
unfolding call_of
returns-in-Begin c = rw c.in-Begin.is c.begin.ensures

pub returns-in-Savepoint : goal.returns-in-Savepoint
unfolding call_of
returns-in-Savepoint c = rw c.in-Savepoint.is c.savepoint.ensures

pub returns-in-Release : goal.returns-in-Release
unfolding call_of
returns-in-Release c = rw c.in-Release.is c.release.ensures

pub returns-in-RollbackTo : goal.returns-in-RollbackTo
unfolding call_of
returns-in-RollbackTo c = rw c.in-RollbackTo.is c.rollback_to.ensures

pub returns-in-Rollback : goal.returns-in-Rollback
unfolding call_of
returns-in-Rollback c = rw c.in-Rollback.is c.rollback.ensures

pub returns-in-Commit : goal.returns-in-Commit
unfolding call_of
returns-in-Commit c = rw c.in-Commit.is c.commit.ensures

pub returns-in-DeleteWhere : goal.returns-in-DeleteWhere
unfolding call_of
returns-in-DeleteWhere c = rw c.in-DeleteWhere.is c.delete_where.ensures

pub returns-in-UpdateWhere : goal.returns-in-UpdateWhere
unfolding call_of
returns-in-UpdateWhere c = rw c.in-UpdateWhere.is c.update_where.ensures
