use Rattle.ga_one_run.proofs.faults.tell_words.Goals as goal

pub returns-in-UnknownOption-clause-line : goal.returns-in-UnknownOption-clause-line
returns-in-UnknownOption-clause-line g c = rw c.in-UnknownOption.is c.tell_number.ensures.line

pub returns-in-MissingValue-clause-line : goal.returns-in-MissingValue-clause-line
returns-in-MissingValue-clause-line g c = rw c.in-MissingValue.is c.tell_number-in-MissingValue.ensures.line

pub returns-in-BadValue-clause-line : goal.returns-in-BadValue-clause-line
returns-in-BadValue-clause-line g c = rw c.in-BadValue.is c.tell_number-in-BadValue.ensures.line

pub returns-in-Conflict-clause-line : goal.returns-in-Conflict-clause-line
returns-in-Conflict-clause-line g c = rw c.in-Conflict.is c.tell_number-in-Conflict.ensures.line

pub returns-in-NoFormat-clause-line : goal.returns-in-NoFormat-clause-line
returns-in-NoFormat-clause-line g c = rw c.in-NoFormat.is c.say.ensures.line

pub returns-in-NoInput-clause-line : goal.returns-in-NoInput-clause-line
returns-in-NoInput-clause-line g c = rw c.in-NoInput.is c.say-in-NoInput.ensures.line

pub returns-in-NoMemory-clause-line : goal.returns-in-NoMemory-clause-line
returns-in-NoMemory-clause-line g c = rw c.in-NoMemory.is c.say-in-NoMemory.ensures.line
