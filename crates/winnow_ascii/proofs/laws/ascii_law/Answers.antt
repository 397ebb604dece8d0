use Rattle.winnow_ascii.proofs.laws.ascii_law.Goals as goal

pub returns-clause-class : goal.returns-clause-class
returns-clause-class g c = λ class least p takes partial a v. rw (takes.0, takes.1.0, takes.1.1) (λ h. h, λ h. h)

pub returns-clause-line : goal.returns-clause-line
returns-clause-line g c = λ p is partial a v. rw (is.0.0, is.0.1.0, is.0.1.1, is.1, is.2) (λ h. h, λ h. h)
