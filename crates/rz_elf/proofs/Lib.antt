pub mod ExecutableLaws
