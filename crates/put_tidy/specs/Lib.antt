pub mod ItemsForm
