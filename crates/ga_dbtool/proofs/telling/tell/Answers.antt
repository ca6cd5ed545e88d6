use Rattle.ga_dbtool.proofs.telling.tell.Goals as goal

pub returns-in-BadWords-clause-line : goal.returns-in-BadWords-clause-line
returns-in-BadWords-clause-line g c = rw c.in-BadWords.is c.tell_number.ensures.line

pub returns-in-DiskFault-clause-line : goal.returns-in-DiskFault-clause-line
returns-in-DiskFault-clause-line g c = rw c.in-DiskFault.is c.tell_number-in-DiskFault.ensures.line

pub returns-in-OutFault-clause-line : goal.returns-in-OutFault-clause-line
returns-in-OutFault-clause-line g c = rw c.in-OutFault.is c.tell_number-in-OutFault.ensures.line

pub returns-in-CounterFull-clause-line : goal.returns-in-CounterFull-clause-line
returns-in-CounterFull-clause-line g c = rw c.in-CounterFull.is c.tell_counter.ensures.line

pub returns-in-DbDamaged-clause-line : goal.returns-in-DbDamaged-clause-line
returns-in-DbDamaged-clause-line g c = rw c.in-DbDamaged.is c.tell_damage.ensures.line

pub returns-in-NoMemory-clause-line : goal.returns-in-NoMemory-clause-line
returns-in-NoMemory-clause-line g c = rw c.in-NoMemory.is c.say-in-NoMemory.ensures.line

pub returns-in-KeepDiffers-clause-line : goal.returns-in-KeepDiffers-clause-line
returns-in-KeepDiffers-clause-line g c = rw c.in-KeepDiffers.is c.tell_pair.ensures.line

pub returns-in-SharedEntry-clause-line : goal.returns-in-SharedEntry-clause-line
returns-in-SharedEntry-clause-line g c = rw c.in-SharedEntry.is c.tell_pair-in-SharedEntry.ensures.line
