use Rattle.std.proofs.Common.{◌≡◌, ◌-◌, ℕ, [], ap, sym, ◌∙◌, length}
use Rattle.std.specs.Prelude.{filter_map}
use Rattle.std.proofs.lemmas.List.{length-map}
use Rattle.crossbeam_queue.specs.Passes.{Pass, view}
use Rattle.unl_workers.specs.declared.tally.QueueEntry.{QueueEntry}
use Rattle.unl_workers.specs.declared.tally.QueueTally.{QueueTally}
use Rattle.unl_workers.specs.Tallies.{tally}
use Rattle.unl_workers.specs.Pool.{slot_of, worker_of}
use Rattle.unl_workers.proofs.pool.run_pool.Goals as goal

pub run_prepared-lent-requires-clause-knows : goal.run_prepared-lent-requires-clause-knows
run_prepared-lent-requires-clause-knows g c =
    let many : length (filter_map worker_of c.in-Ok-workers_of.workers.items) ≡ length c.args.slots.items =
    sym (length-map (filter_map worker_of c.in-Ok-workers_of.workers.items) slot_of)
    ∙ ap length c.in-Ok-workers_of.ensures.workers in
    let fact = ap (λ (pass : Pass (QueueEntry g.row.D-L.Denot) (QueueTally g.row.D-L.Denot)). view pass) c.new-acceptor.ensures.pass
    ∙ c.in-Ok-workers_of.ensures.parts
    ∙ ap (λ (v : QueueTally g.row.D-L.Denot). tally (v.parts - length c.args.slots.items) v.put v.taken v.may_put v.ends_seen) c.in-Ok.ensures.1
    ∙ ap (λ (k : ℕ). tally (18446744073709551616 - k) [] [] 1 0) (sym many) in
    λ κs outlives. fact
