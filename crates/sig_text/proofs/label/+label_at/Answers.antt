use Rattle.sig_text.proofs.label.+label_at.Goals as goal

pub form_label_at-returns-in-Scoped : goal.form_label_at-returns-in-Scoped
form_label_at-returns-in-Scoped t c = rw c.in-Scoped.is c.scoped_at.ensures
