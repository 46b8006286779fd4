-- A meaning that passes the test keeps the laws.
use Rattle.diagram.proofs.Tests.{tested}
use Rattle.dialect.proofs.profiles.Profile.law.Goals as goal

pub returns : goal.returns
returns c = (tested c.args.self.now.meaning).0 c.args.self.now.sound
