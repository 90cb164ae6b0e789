use Rattle.olr_run.proofs.Common.{Begin, Commit, ap, command_of, refl}
use Rattle.olr_run.proofs.Restoring.{logged_result, refused_result}
use Rattle.olr_run.proofs.loader.Loader.carry_out.Goals as goal

pub returns-in-Begin-clause-loaded : goal.returns-in-Begin-clause-loaded
returns-in-Begin-clause-loaded c =
    logged_result c.args.self.now c.begin.new.self (command_of c.args.command) Begin c.begin.result
    (ap command_of c.in-Begin.is) tt c.begin.ensures.loaded

pub returns-in-Commit-clause-loaded : goal.returns-in-Commit-clause-loaded
returns-in-Commit-clause-loaded c =
    logged_result c.args.self.now c.commit.new.self (command_of c.args.command) (Commit c.in-Commit.count) c.commit.result
    (ap command_of c.in-Commit.is) tt c.commit.ensures.loaded

pub change-requires : goal.change-requires
change-requires c = (_, ap command_of c.in-Edit.is)

pub change-requires-in-AddPath : goal.change-requires-in-AddPath
change-requires-in-AddPath c = (_, ap command_of c.in-AddPath.is)

pub change-requires-in-SetPath : goal.change-requires-in-SetPath
change-requires-in-SetPath c = (_, ap command_of c.in-SetPath.is)

pub change-requires-in-DropPath : goal.change-requires-in-DropPath
change-requires-in-DropPath c = (_, ap command_of c.in-DropPath.is)

pub change-requires-in-SetMargin : goal.change-requires-in-SetMargin
change-requires-in-SetMargin c = (_, ap command_of c.in-SetMargin.is)

pub returns-in-Edit-clause-refused : goal.returns-in-Edit-clause-refused
returns-in-Edit-clause-refused c = refused_result _ _ _ c.change.result refl c.change.ensures.refused

pub returns-in-AddPath-clause-refused : goal.returns-in-AddPath-clause-refused
returns-in-AddPath-clause-refused c = refused_result _ _ _ c.change-in-AddPath.result refl c.change-in-AddPath.ensures.refused

pub returns-in-SetPath-clause-refused : goal.returns-in-SetPath-clause-refused
returns-in-SetPath-clause-refused c = refused_result _ _ _ c.change-in-SetPath.result refl c.change-in-SetPath.ensures.refused

pub returns-in-DropPath-clause-refused : goal.returns-in-DropPath-clause-refused
returns-in-DropPath-clause-refused c = refused_result _ _ _ c.change-in-DropPath.result refl c.change-in-DropPath.ensures.refused

pub returns-in-SetMargin-clause-refused : goal.returns-in-SetMargin-clause-refused
returns-in-SetMargin-clause-refused c = refused_result _ _ _ c.change-in-SetMargin.result refl c.change-in-SetMargin.ensures.refused

pub returns-in-Begin-clause-refused : goal.returns-in-Begin-clause-refused
returns-in-Begin-clause-refused c = refused_result _ _ _ c.begin.result (ap command_of c.in-Begin.is) c.begin.ensures.refused

pub returns-in-Commit-clause-refused : goal.returns-in-Commit-clause-refused
returns-in-Commit-clause-refused c = refused_result _ _ _ c.commit.result (ap command_of c.in-Commit.is) c.commit.ensures.refused
