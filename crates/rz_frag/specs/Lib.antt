pub mod Fragment
