use Rattle.ga_counting_tests.proofs.numbers.are_numbered.Goals as goal

pub host_at-first-requires : goal.host_at-first-requires
host_at-first-requires g c = (_, c.in_ok-numbers.ensures)

pub host_at-shared-requires : goal.host_at-shared-requires
host_at-shared-requires g c = (_, c.in_ok-numbers.ensures)

pub host_at-again-requires : goal.host_at-again-requires
host_at-again-requires g c = (_, c.in_ok-numbers.ensures)

pub host_at-last-requires : goal.host_at-last-requires
host_at-last-requires g c = (_, c.in_ok-numbers.ensures)
