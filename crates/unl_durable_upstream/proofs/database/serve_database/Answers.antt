use Rattle.std.proofs.Common.{◌≡◌, ap}
use Rattle.unl_durable_upstream.specs.Databases.{unopened}
use Rattle.unl_durable_upstream.specs.Serving.{facing}
use Rattle.unl_keeper.specs.Sqlite.{sqlite_state}
use Rattle.unl_durable_upstream.proofs.Closing.{door_failed, serves_and_closes}
use Rattle.unl_durable_upstream.proofs.database.serve_database.Goals as goal

pub returns-clause-ends : goal.returns-clause-ends
returns-clause-ends g c =
    let is : sqlite_state c.new-keeper.result ≡ unopened = ap sqlite_state c.new-keeper.ensures in
    serves_and_closes c.args.up c.args.arguments.now.options.port (sqlite_state c.new-keeper.result) c.serve_keeper-served.result.0 c.close.result
    (facing (g.D.Door.state c.args.door.now) (g.R.Draws.coming c.args.draws.now))
    (facing (g.D.Door.state c.serve_keeper-served.new.door) (g.R.Draws.coming c.serve_keeper-served.new.draws)) is c.serve_keeper-served.ensures.ends
    c.close.ensures

pub returns-clause-door : goal.returns-clause-door
returns-clause-door g c =
    λ fails. c.serve_keeper-served.ensures.door (door_failed c.serve_keeper-served.result.0 c.close.result c.close.ensures fails)
