use Rattle.ga_one_run.proofs.faults.tell.Goals as goal

pub returns-in-BadFormat-clause-line : goal.returns-in-BadFormat-clause-line
returns-in-BadFormat-clause-line g c = rw c.in-BadFormat.is c.tell_format.ensures.line

pub returns-in-BadConf-clause-line : goal.returns-in-BadConf-clause-line
returns-in-BadConf-clause-line g c = rw c.in-BadConf.is c.tell_number.ensures.line

pub returns-in-BadRules-clause-line : goal.returns-in-BadRules-clause-line
returns-in-BadRules-clause-line g c = rw c.in-BadRules.is c.tell_number-in-BadRules.ensures.line

pub returns-in-FileFault-clause-line : goal.returns-in-FileFault-clause-line
returns-in-FileFault-clause-line g c = rw c.in-FileFault.is c.say-in-FileFault.ensures.line

pub returns-in-FileShort-clause-line : goal.returns-in-FileShort-clause-line
returns-in-FileShort-clause-line g c = rw c.in-FileShort.is c.tell_place.ensures.line

pub returns-in-OutFault-clause-line : goal.returns-in-OutFault-clause-line
returns-in-OutFault-clause-line g c = rw c.in-OutFault.is c.tell_place-in-OutFault.ensures.line

pub returns-in-DbDamaged-clause-line : goal.returns-in-DbDamaged-clause-line
returns-in-DbDamaged-clause-line g c = rw c.in-DbDamaged.is c.tell_damage.ensures.line

pub returns-in-KeepDiffers-clause-line : goal.returns-in-KeepDiffers-clause-line
returns-in-KeepDiffers-clause-line g c = rw c.in-KeepDiffers.is c.tell_days.ensures.line

pub returns-in-CounterFull-clause-line : goal.returns-in-CounterFull-clause-line
returns-in-CounterFull-clause-line g c = rw c.in-CounterFull.is c.tell_counter.ensures.line

pub returns-in-NoMemory-clause-line : goal.returns-in-NoMemory-clause-line
returns-in-NoMemory-clause-line g c = rw c.in-NoMemory.is c.say-in-NoMemory.ensures.line
