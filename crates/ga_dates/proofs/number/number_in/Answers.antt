use Rattle.ga_dates.proofs.number.number_in.Goals as goal

pub returns-in-SpacedDay-clause-only : goal.returns-in-SpacedDay-clause-only
returns-in-SpacedDay-clause-only c n h = c.spaced_digits.ensures.only n (rw c.in-SpacedDay.is at h)

pub returns-in-ShortYear-clause-only : goal.returns-in-ShortYear-clause-only
returns-in-ShortYear-clause-only c n h = c.short_year.ensures.only n (rw c.in-ShortYear.is at h)
